-- From what callers heard, and what the session has of them, to results that are lawful.
use Rattle.std.specs.Prelude.{◌≡◌, ℕ, ◌+◌, ◌-◌, ◌<◌, ◌≤◌, ◌==◌, List, [], ◌∷◌, ◌++◌, length, filter, take, map}
use Rattle.std.proofs.Common.{sym, ap, ◌∙◌, arith, subst, length-append}
use Rattle.std.proofs.lemmas.List.{take-append-le}
use Rattle.std.specs.List.{enumerate_from, AllByRecursion}
use Rattle.rom_model.specs.declared.call.Updated.{Updated}
use Rattle.rom_model.specs.declared.entry.Entry.{Entry}
use Rattle.rom_model.specs.declared.line.Step.{Step}
use Rattle.rom_model.specs.declared.line.Step.TheVariants as line
use Rattle.rom_model.specs.declared.line.LineResult.{LineResult}
use Rattle.rom_model.specs.declared.line.LineResult.TheVariants as outcome
use Rattle.rom_model.specs.declared.record.Found.{Found}
use Rattle.rom_model.specs.declared.record.PassRecord.{PassRecord}
use Rattle.rom_model.specs.History.{after, IsLegal}
use Rattle.rom_model.specs.Passes.{all_told, history_of}
use Rattle.rom_model.specs.Story.{Story}
use Rattle.rom_model.specs.Lawful.{Tells, Answers, IsAnswerAt, asked, told_to, IsServed, AreServed, IsLawful}
use Rattle.rom_model.specs.Machine.{Machine, on_words}
use Rattle.rom_model.proofs.Recorded.{history_legal}
use Rattle.rom_model.specs.declared.kept.Kept.{Kept}
use Rattle.rom_model.specs.Seen.{StartsWith, done_in}
use Rattle.rom_model.specs.Heard.{fronts_of, IsSeenAt, IsHeard, AreHeard}
use Rattle.rom_model.specs.Leaving.{IsFront, IsClosed, HasLeft, HaveLeft}
use Rattle.rom_model.proofs.Placed.{all_found, done_by_caller, history_placed, told_found, asked_done}

all_first : {X Y : Type 0} (P : X → Type 0) (xs : List (X × Y)) → AllByRecursion P (map (λ x. x.0) xs) → AllByRecursion (λ x. P x.0) xs
all_first P [] all = tt
all_first P (x ∷ xs) all = (all.0, all_first P xs all.1)

all_append : {X : Type 0} (P : X → Type 0) (xs ys : List X) → AllByRecursion P xs → AllByRecursion P ys → AllByRecursion P (xs ++ ys)
all_append P [] ys first second = second
all_append P (x ∷ xs) ys first second = (first.0, all_append P xs ys first.1 second)

each_found : (P : Found → Type 0) (rs : List PassRecord) → AllByRecursion (λ r. AllByRecursion P r.found) rs → AllByRecursion P (all_found rs)
each_found P [] all = tt
each_found P (r ∷ rs) all = all_append P r.found (all_found rs) all.0 (each_found P rs all.1)

module _ {S C Q R A : Type 0} (m : Machine S C Q R A) where
  -- a read stands in the history, whose beginning was seen
  stands : (story : Story S) (seen : List Entry) (q : Q) (a : A) (f : ℕ) → StartsWith story.history seen → IsFront m story f → IsSeenAt m story.order story.opening story.opening_count seen q a f → IsAnswerAt m story q a f
  stands story seen q a f later front s =
      let long : length story.history ≡ length seen + length later.0 = ap length later.1 ∙ length-append seen later.0 in
      let since = s.since in let reached = s.reached in
      record {
        since = since;
        reached = omega arith;
        committed = front.1;
        answer_is = s.answer_is ∙ ap (λ es. m.tell (after (on_words m) story.order story.opening story.opening_count es) q)
            (sym (ap (take (f - story.opening_count)) later.1 ∙ take-append-le (f - story.opening_count) seen later.0 (omega arith)));
      }

  tells : (story : Story S) (seen : List Entry) (rs : List (LineResult R A)) (l : Step C Q) (r : LineResult R A) → StartsWith story.history seen → IsHeard m story.order story.opening story.opening_count seen l r →
      AllByRecursion (IsFront m story) (fronts_of m (r ∷ rs)) → Tells m story l r × AllByRecursion (IsFront m story) (fronts_of m rs)
  tells story seen rs line.Unread outcome.Unread later h fronts = (tt, fronts)
  tells story seen rs (line.Update call) (outcome.Update u) later h fronts = (tt, fronts)
  tells story seen rs (line.Ask q) (outcome.Read a f) later h fronts = (stands story seen q a f later fronts.0 h, fronts.1)
  tells story seen rs l r later h fronts = elim h [ ]

  answers : (story : Story S) (seen : List Entry) (ls : List (Step C Q)) (rs : List (LineResult R A)) → StartsWith story.history seen → AreHeard m story.order story.opening story.opening_count seen ls rs →
      AllByRecursion (IsFront m story) (fronts_of m rs) → Answers m story ls rs
  answers story seen [] [] later all fronts = tt
  answers story seen (l ∷ ls) (r ∷ rs) later all fronts =
      let one : Tells m story l r × AllByRecursion (IsFront m story) (fronts_of m rs) = tells story seen rs l r later all.0 fronts in
      (one.0, answers story seen ls rs later all.1 one.1)
  answers story seen ls rs later all fronts = elim all [ ]

  -- the passes told a caller what its lines were told
  told_so : (story : Story S) (c : ℕ) (v : Kept) (ls : List (Step C Q)) (rs : List (LineResult R A)) → HasLeft m story c v ls rs → told_to m story c ≡ asked m c 0 ls rs
  told_so story c v ls rs x = subst (λ (z : ℕ). told_to m story z ≡ asked m z 0 ls rs) x.number (x.kept.told ∙ x.heard.told)

  -- a caller is served
  pub served : (story : Story S) (c : ℕ) (v : Kept) (ls : List (Step C Q)) (rs : List (LineResult R A)) →
      story.history ≡ history_of (on_words m) story.order story.opening story.opening_count story.records → HasLeft m story c v ls rs → IsServed m story c ls rs
  served story c v ls rs made x =
      let all : List (Found × Updated (List ℕ)) = all_told (on_words m) story.order story.opening story.opening_count story.records in
      let found = told_so story c v ls rs x in
      record {
        answered = answers story v.seen ls rs x.kept.seen x.heard.heard (subst (AllByRecursion (IsFront m story)) x.heard.fronts x.kept.fronts);
        once = ap (λ es. filter (λ y. y.1.caller == c) (enumerate_from story.opening_count es)) made
            ∙ ap (filter (λ y. y.1.caller == c)) (history_placed (on_words m) story.order story.opening story.opening_count story.records)
            ∙ done_by_caller c all
            ∙ ap done_in found
            ∙ asked_done m c 0 ls rs;
        found = found;
        fresh = x.heard.fresh;
      }

  all_served : (story : Story S) (c : ℕ) (vs : List Kept) (scripts : List (List (Step C Q))) (results : List (List (LineResult R A))) →
      story.history ≡ history_of (on_words m) story.order story.opening story.opening_count story.records → HaveLeft m story c vs scripts results → AreServed m story c scripts results
  all_served story c [] [] [] made all = tt
  all_served story c (v ∷ vs) (ls ∷ scripts) (rs ∷ results) made all = (served story c v ls rs made all.0, all_served story (c + 1) vs scripts results made all.1)
  all_served story c vs scripts results made all = elim all [ ]

  -- Results of callers that all have left a closed session are lawful.
  pub lawful : (story : Story S) (vs : List Kept) (scripts : List (List (Step C Q))) (results : List (List (LineResult R A))) →
      IsClosed m story (length scripts) → HaveLeft m story 1 vs scripts results → IsLawful m story scripts results
  lawful story vs scripts results closed all =
      let recorded = closed.recorded in
      record {
        served = all_served story 1 vs scripts results recorded.made all;
        legal = subst (IsLegal (on_words m) story.order story.opening story.opening_count) (sym recorded.made) (history_legal (on_words m) story.order story.opening story.opening_count story.records);
        recorded = recorded;
        known = all_first (λ f. (0 < f.caller) × (f.caller ≤ length scripts)) (all_told (on_words m) story.order story.opening story.opening_count story.records)
            (subst (AllByRecursion (λ f. (0 < f.caller) × (f.caller ≤ length scripts))) (sym (told_found (on_words m) story.order story.opening story.opening_count story.records))
            (each_found (λ f. (0 < f.caller) × (f.caller ≤ length scripts)) story.records closed.known));
      }
