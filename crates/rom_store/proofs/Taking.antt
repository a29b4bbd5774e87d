-- One line that a caller took, by what it asks for, and its result behind those before, in the room that was reserved for it.
use Rattle.std.specs.Prelude.{IsSome, Option, Some, None}
use Rattle.std.proofs.Common.{◌≡◌, ℕ, ◌+◌, ◌*◌, ◌<◌, ◌≤◌, List, [], ◌∷◌, ◌++◌, length, length-append, append-nil, refl, sym, ap, ◌∙◌, subst, inl, inr, arith}
use Rattle.atomic_table.specs.Seated.{TableId}
use Rattle.rom_model.specs.Heard.{HasHeard}
use Rattle.rom_model.specs.History.{LAST_COUNT}
use Rattle.rom_model.specs.Lawful.{as_words}
use Rattle.rom_model.specs.Machine.{Machine, on_words}
use Rattle.rom_model.specs.Seen.{IsPlaced, next_call}
use Rattle.rom_model.specs.declared.call.Updated.{Updated}
use Rattle.rom_model.specs.declared.call.Updated.TheVariants as updated
use Rattle.rom_model.specs.declared.entry.Entry.{Entry}
use Rattle.rom_model.specs.declared.kept.Kept.{Kept}
use Rattle.rom_model.specs.declared.line.LineResult.{LineResult}
use Rattle.rom_model.specs.declared.line.LineResult.TheVariants as outcome
use Rattle.rom_model.specs.declared.line.Step.{Step}
use Rattle.rom_model.specs.declared.line.Step.TheVariants as line
use Rattle.rom_model.proofs.Hearing as hearing
use Rattle.rom_lines.specs.Replies.{HasReplyWords, Reserved, TookRoom, done_as, updated_as}
use Rattle.rom_lines.specs.Steps.{need}
use Rattle.rom_lines.specs.declared.results.Became.{Became}
use Rattle.rom_lines.specs.declared.results.Became.TheVariants as became
use Rattle.rom_rule.specs.declared.views.Base.{Base}
use Rattle.rom_store.specs.Callers.{Caller, IsCallerOf}
use Rattle.rom_store.specs.Closing.{kept_in}
use Rattle.rom_store.specs.Reading.{HasAnswered}
use Rattle.rom_store.specs.Taking.{HasTakenOne, HasTakenWords, IsSeen, result_taken, words_taken}
use Rattle.rom_store.specs.Updating.{HasUpdated}
use Rattle.rom_store.specs.Working.{HasDoneLines, HasTaken}
use Rattle.rom_store.specs.declared.work.Taken.{Taken}
use Rattle.rom_store.specs.declared.work.Taken.TheVariants as taken
use Rattle.rom_store.proofs.Placing.{is_placed}

some_reply : {R : Type 0} (words_reply : List ℕ → Option R) (place : ℕ) (words : List ℕ) → IsSome (words_reply words) → (reply : R) × (updated_as words_reply (became.Done place) words ≡ updated.Done reply place) × (words_reply words ≡ Some reply)
some_reply {R} words_reply place words = read (words_reply words) refl
  where
    read : (o : Option R) → words_reply words ≡ o → IsSome o → (reply : R) × (updated_as words_reply (became.Done place) words ≡ updated.Done reply place) × (words_reply words ≡ Some reply)
    read (Some reply) is h = (reply, ap (done_as place) is, is)
    read None is h = absurd (cc h)

-- An update that was done has a reply, which its words are.
module _ {R A : Type 0} (words_reply : List ℕ → Option R) where
  pub done_taken : (told : Taken A) (b : Became) (place : ℕ) (words : List ℕ) → told ≡ taken.Update b → b ≡ became.Done place → HasTakenWords words_reply told words →
      (reply : R) × (result_taken words_reply told words ≡ outcome.Update (updated.Done reply place)) × (words_reply words ≡ Some reply)
  done_taken told b place words told_is b_is replied =
      let is : told ≡ taken.Update (became.Done place) = told_is ∙ ap (λ (z : Became). taken.Update z) b_is in
      let found = some_reply words_reply place words (subst (λ (z : Taken A). HasTakenWords words_reply z words) is replied) in
      (found.0, ap (λ (z : Taken A). result_taken words_reply z words) is ∙ ap (λ (u : Updated R). outcome.Update u) found.1, found.2)

one_more : {X : Type 0} (xs ys : List X) (x : X) → ys ≡ xs ++ x ∷ [] → length ys ≤ length xs + 1
one_more xs ys x is = omega (arith, ap length is, length-append xs (x ∷ []))

no_more : {X : Type 0} (xs ys : List X) → ys ≡ xs → length ys ≤ length xs + 1
no_more xs ys is = omega (arith, ap length is)

none_at_most : (n : ℕ) → 0 ≤ n
none_at_most n = omega arith

at_most : (n k : ℕ) → n ≡ k → n ≤ k
at_most n k is = omega arith

-- the words of a reply are no more than twice those of the call
twice : (told call words : List ℕ) → call ≡ words → length told ≤ 2 * length words → length told ≤ 2 * length call
twice told call words is few = omega (arith, ap length is)

-- what is placed among what was seen is seen
is_seen : {S C Q R A : Type 0} (m : Machine S C Q R A) (k : ℕ) (before : List Entry) (w : Kept) (u : Updated R) → IsPlaced k before w.seen (as_words m u) → IsSeen {R = R} {A = A} k w (outcome.Update u)
is_seen m k before w (updated.Done reply place) at = at.1
is_seen m k before w updated.Spent at = tt
is_seen m k before w updated.Failed at = tt
is_seen m k before w updated.Doubt at = tt

module _ {S C Q R A : Type 0} (m : Machine S C Q R A) (Contents : ℕ → List ℕ → S → ℕ → Type 0) (base : Base) (asks : Step C Q) (was now : Caller) where
  abbrev v : Kept
  v = kept_in was

  abbrev w : Kept
  w = kept_in now

  -- what a caller has heard, where what the line asks for is written otherwise
  heard_so : (s : S) (k : ℕ) (ls : List (Step C Q)) (rs : List (LineResult R A)) (l : Step C Q) → asks ≡ l → HasHeard m base.order s k w (ls ++ l ∷ []) rs → HasHeard m base.order s k w (ls ++ asks ∷ []) rs
  heard_so s k ls rs l is h = subst (λ (z : Step C Q). HasHeard m base.order s k w (ls ++ z ∷ []) rs) (sym is) h

  pub took_update : ((order : ℕ) (words : List ℕ) (s t : S) (j k : ℕ) → Contents order words s j → Contents order words t k → (s ≡ t) × (j ≡ k)) → (table : TableId) (call : C) (words : List ℕ) (b : Became) (told : List ℕ) →
      asks ≡ line.Update call → m.call_words call ≡ words → length v.told < LAST_COUNT → HasUpdated m Contents table base words (updated_as m.words_reply b told) was now → HasReplyWords m.words_reply b told → length told ≤ 2 * length words →
      HasTakenOne m Contents base table asks (taken.Update b) told was now
  took_update one table call words b told is words_are few h replied room =
      let u = updated_as m.words_reply b told in
      let gains = h.told few in
      let placed : (s : S) (k : ℕ) → Contents base.order base.image s k → IsPlaced k v.seen w.seen (as_words m u) = λ s k at. is_placed Contents one (on_words m) base (next_call v words) (as_words m u) v.seen w.seen s k at (h.taken few) in
      record {
        of = h.of;
        number = h.same.2;
        replied = replied;
        few = subst (λ z. length told ≤ need m.call_words z) (sym is) (twice told (m.call_words call) words words_are room);
        calls = one_more v.told w.told (next_call v words, as_words m u) gains;
        later = h.later;
        seen = λ s k at. is_seen m k v.seen w u (placed s k at);
        dated = inl (h.dated few);
        done = λ ls rs done. record {
          alone = h.joined ∙ done.alone;
          heard = λ s k at. heard_so s k ls (rs ++ outcome.Update u ∷ []) (line.Update call) is (hearing.updated m base.order s k v w ls rs call u (done.heard s k at) h.same.2 h.later h.fronts
              (subst (λ ws. w.told ≡ v.told ++ (next_call v ws, as_words m u) ∷ []) (sym words_are) gains) (placed s k at));
        };
      }

  pub took_read : (table : TableId) (query : Q) (answer : A) (front : ℕ) (words : List ℕ) → asks ≡ line.Ask query → HasAnswered m Contents base table query was now (answer, front) → HasTakenOne m Contents base table asks (taken.Read answer front) words was now
  took_read table query answer front words is h =
      let told : w.told ≡ v.told = λ j. (h.still j).outcomes in
      record {
        of = h.of;
        number = h.same.2;
        replied = tt;
        few = none_at_most (need m.call_words asks);
        calls = no_more v.told w.told told;
        later = h.later;
        seen = λ s k at. at_most front (k + length w.seen) (h.front s k at);
        dated = inl h.dated;
        done = λ ls rs done. record {
          alone = (λ j. (h.still j).joined) ∙ done.alone;
          heard = λ s k at. heard_so s k ls (rs ++ outcome.Read answer front ∷ []) (line.Ask query) is
              (hearing.read m base.order s k v w ls rs query answer front (done.heard s k at) h.same.2 h.later (h.front s k at) (h.answer s k at) h.fronts told);
        };
      }

  -- A line that was taken stands behind those before, once its result is pushed.
  pub pushed : (table : TableId) (told : Taken A) (words : List ℕ) (old new : Reserved (LineResult R A)) → HasTakenOne m Contents base table asks told words was now →
      new.items ≡ old.items ++ result_taken m.words_reply told words ∷ [] → TookRoom old new (words_taken m.words_reply told words) → HasTaken m Contents base asks was now old new
  pushed table told words old new h added room = record {
    used = words_taken m.words_reply told words;
    few = h.few;
    room = room;
    done = λ ls done. subst (HasDoneLines m Contents base now (ls ++ asks ∷ [])) (sym added) (h.done ls old.items done);
  }

-- a line that is no command makes no call
pub took_none : {S C Q R A : Type 0} (m : Machine S C Q R A) (Contents : ℕ → List ℕ → S → ℕ → Type 0) (base : Base) (asks : Step C Q) (was : Caller) (table : TableId) (words : List ℕ) →
    asks ≡ line.Unread → IsCallerOf Contents table base was → HasTakenOne m Contents base table asks taken.Unread words was was
took_none m Contents base asks was table words is of = let v = kept_in was in record {
  of = of;
  number = refl;
  replied = tt;
  few = none_at_most (need m.call_words asks);
  calls = no_more v.told v.told refl;
  later = ([], sym (append-nil v.seen));
  seen = λ s k at. tt;
  dated = inr refl;
  done = λ ls rs done. record {
    alone = done.alone;
    heard = λ s k at. heard_so m Contents base asks was was s k ls (rs ++ outcome.Unread ∷ []) line.Unread is (hearing.unread m base.order s k v ls rs (done.heard s k at));
  };
}
