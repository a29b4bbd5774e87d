-- What a caller has heard, line by line.
use Rattle.std.specs.Prelude.{◌≡◌, ℕ, ◌+◌, ◌-◌, ◌<◌, ◌≤◌, List, [], ◌∷◌, ◌++◌, length, take}
use Rattle.std.proofs.Common.{refl, sym, ap, ◌∙◌, arith, append_assoc, append-nil, subst, length-append, get_or}
use Rattle.std.proofs.lemmas.List.{take-append-le, take_all, take_more}
use Rattle.rom_model.specs.declared.call.Updated.{Updated}
use Rattle.rom_model.specs.declared.call.Updated.TheVariants as told
use Rattle.rom_model.specs.declared.entry.Entry.{Entry}
use Rattle.rom_model.specs.declared.line.Step.{Step}
use Rattle.rom_model.specs.declared.line.Step.TheVariants as line
use Rattle.rom_model.specs.declared.line.LineResult.{LineResult}
use Rattle.rom_model.specs.declared.line.LineResult.TheVariants as outcome
use Rattle.rom_model.specs.History.{after}
use Rattle.rom_model.specs.Lawful.{IsFresh, IsAtLeast, as_words, asked, asked_by, posted_after, least_after}
use Rattle.rom_model.specs.Machine.{Machine, on_words}
use Rattle.rom_model.specs.declared.kept.Kept.{Kept}
use Rattle.rom_model.specs.Seen.{StartsWith, IsPlaced, next_call}
use Rattle.rom_model.specs.Heard.{fronts_of, least_after_all, IsSeenAt, IsHeard, AreHeard, HasHeard}

module _ {S C Q R A : Type 0} (m : Machine S C Q R A) where
  -- how many updates were posted after some lines
  abbrev pub posted : ℕ → List (Step C Q) → ℕ
  posted seq [] = seq
  posted seq (l ∷ ls) = posted (posted_after m seq l) ls

  -- a caller posts no more updates than it has lines
  pub posted_few : (seq : ℕ) (ls : List (Step C Q)) → posted seq ls ≤ seq + length ls
  posted_few seq [] = omega arith
  posted_few seq (line.Update call ∷ ls) = let few = posted_few (seq + 1) ls in omega arith
  posted_few seq (line.Ask q ∷ ls) = let few = posted_few seq ls in omega arith
  posted_few seq (line.Unread ∷ ls) = let few = posted_few seq ls in omega arith

  pub fronts_more : (rs : List (LineResult R A)) (r : LineResult R A) → fronts_of m (rs ++ r ∷ []) ≡ fronts_of m rs ++ fronts_of m (r ∷ [])
  fronts_more [] r = refl
  fronts_more (outcome.Read a f ∷ rs) r = ap (λ zs. f ∷ zs) (fronts_more rs r)
  fronts_more (outcome.Update u ∷ rs) r = fronts_more rs r
  fronts_more (outcome.Unread ∷ rs) r = fronts_more rs r

  least_more : (low : ℕ) (rs : List (LineResult R A)) (r : LineResult R A) → least_after_all m low (rs ++ r ∷ []) ≡ least_after m (least_after_all m low rs) r
  least_more low [] r = refl
  least_more low (q ∷ rs) r = least_more (least_after m low q) rs r

  fresh_more : (low : ℕ) (rs : List (LineResult R A)) (r : LineResult R A) → IsFresh m low rs → IsAtLeast m (least_after_all m low rs) r → IsFresh m low (rs ++ r ∷ [])
  fresh_more low [] r before now = (now, tt)
  fresh_more low (q ∷ rs) r before now = (before.0, fresh_more (least_after m low q) rs r before.1 now)

  module _ (order : ℕ) (start : S) (opened : ℕ) where
    seen_on : (old new : List Entry) (q : Q) (a : A) (f : ℕ) → StartsWith new old → IsSeenAt m order start opened old q a f → IsSeenAt m order start opened new q a f
    seen_on old new q a f later s =
        let long : length new ≡ length old + length later.0 = ap length later.1 ∙ length-append old later.0 in
        let since = s.since in let reached = s.reached in
        record {
          since = since;
          reached = omega arith;
          answer_is = s.answer_is ∙ ap (λ es. m.tell (after (on_words m) order start opened es) q) (sym (ap (take (f - opened)) later.1 ∙ take-append-le (f - opened) old later.0 (omega arith)));
        }

    one_on : (old new : List Entry) (l : Step C Q) (r : LineResult R A) → StartsWith new old → IsHeard m order start opened old l r → IsHeard m order start opened new l r
    one_on old new line.Unread outcome.Unread later h = tt
    one_on old new (line.Update call) (outcome.Update u) later h = tt
    one_on old new (line.Ask q) (outcome.Read a f) later h = seen_on old new q a f later h
    one_on old new l r later h = elim h [ ]

    heard_on : (old new : List Entry) (ls : List (Step C Q)) (rs : List (LineResult R A)) → StartsWith new old → AreHeard m order start opened old ls rs → AreHeard m order start opened new ls rs
    heard_on old new [] [] later all = tt
    heard_on old new (l ∷ ls) (r ∷ rs) later all = (one_on old new l r later all.0, heard_on old new ls rs later all.1)
    heard_on old new ls rs later all = elim all [ ]

    heard_more : (seen : List Entry) (ls : List (Step C Q)) (rs : List (LineResult R A)) (l : Step C Q) (r : LineResult R A) →
        AreHeard m order start opened seen ls rs → IsHeard m order start opened seen l r → AreHeard m order start opened seen (ls ++ l ∷ []) (rs ++ r ∷ [])
    heard_more seen [] [] l r before now = (now, tt)
    heard_more seen (k ∷ ls) (q ∷ rs) l r before now = (before.0, heard_more seen ls rs l r before.1 now)
    heard_more seen ls rs l r before now = elim before [ ]

    one_many : (seen : List Entry) (c seq : ℕ) (ls : List (Step C Q)) (rs : List (LineResult R A)) (l : Step C Q) (r : LineResult R A) → IsHeard m order start opened seen l r →
        posted (posted_after m seq l) ls ≡ posted_after m seq l + length (asked m c (posted_after m seq l) ls rs) → posted seq (l ∷ ls) ≡ seq + length (asked m c seq (l ∷ ls) (r ∷ rs))
    one_many seen c seq ls rs line.Unread outcome.Unread h so = so
    one_many seen c seq ls rs (line.Update call) (outcome.Update u) h so = omega arith
    one_many seen c seq ls rs (line.Ask q) (outcome.Read a f) h so = so
    one_many seen c seq ls rs l r h so = elim h [ ]

    -- each update line has an update's result
    pub as_many : (seen : List Entry) (c seq : ℕ) (ls : List (Step C Q)) (rs : List (LineResult R A)) → AreHeard m order start opened seen ls rs → posted seq ls ≡ seq + length (asked m c seq ls rs)
    as_many seen c seq [] [] all = omega arith
    as_many seen c seq (l ∷ ls) (r ∷ rs) all = one_many seen c seq ls rs l r all.0 (as_many seen c (posted_after m seq l) ls rs all.1)
    as_many seen c seq ls rs all = elim all [ ]

    asked_more : (seen : List Entry) (c seq : ℕ) (ls : List (Step C Q)) (rs : List (LineResult R A)) (l : Step C Q) (r : LineResult R A) → AreHeard m order start opened seen ls rs →
        asked m c seq (ls ++ l ∷ []) (rs ++ r ∷ []) ≡ asked m c seq ls rs ++ asked_by m c (posted seq ls) l r
    asked_more seen c seq [] [] l r all = append-nil _
    asked_more seen c seq (k ∷ ls) (q ∷ rs) l r all = ap (λ zs. asked_by m c seq k q ++ zs) (asked_more seen c (posted_after m seq k) ls rs l r all.1) ∙ sym (append_assoc (asked_by m c seq k q) _ _)
    asked_more seen c seq ls rs l r all = elim all [ ]

    -- before the first line
    pub begun : (v : Kept) → v.fronts ≡ [] → v.told ≡ [] → HasHeard m order start opened v [] []
    begun v fronts told = record { heard = tt; told = told; fronts = fronts; fresh = tt; low = omega arith }

    pub unread : (v : Kept) (ls : List (Step C Q)) (rs : List (LineResult R A)) → HasHeard m order start opened v ls rs → HasHeard m order start opened v (ls ++ line.Unread ∷ []) (rs ++ outcome.Unread ∷ [])
    unread v ls rs h = record {
      heard = heard_more v.seen ls rs line.Unread outcome.Unread h.heard tt;
      told = h.told ∙ sym (asked_more v.seen v.number 0 ls rs line.Unread outcome.Unread h.heard ∙ append-nil _);
      fronts = h.fronts ∙ sym (fronts_more rs outcome.Unread ∙ append-nil _);
      fresh = fresh_more 0 rs outcome.Unread h.fresh tt;
      low = subst (λ (n : ℕ). n ≤ opened + length v.seen) (sym (least_more 0 rs outcome.Unread)) h.low;
    }

    -- a read: its front is the count of all that is seen then
    pub read : (old new : Kept) (ls : List (Step C Q)) (rs : List (LineResult R A)) (q : Q) (a : A) (f : ℕ) → HasHeard m order start opened old ls rs → new.number ≡ old.number →
        StartsWith new.seen old.seen → f ≡ opened + length new.seen → a ≡ m.tell (after (on_words m) order start opened new.seen) q →
        new.fronts ≡ old.fronts ++ f ∷ [] → new.told ≡ old.told → HasHeard m order start opened new (ls ++ line.Ask q ∷ []) (rs ++ outcome.Read a f ∷ [])
    read old new ls rs q a f h number later front answer fronts told =
        let long : length new.seen ≡ length old.seen + length later.0 = ap length later.1 ∙ length-append old.seen later.0 in
        let low = h.low in
        record {
          heard = heard_more new.seen ls rs (line.Ask q) (outcome.Read a f) (heard_on old.seen new.seen ls rs later h.heard) (record {
            since = omega arith;
            reached = omega arith;
            answer_is = answer ∙ ap (λ es. m.tell (after (on_words m) order start opened es) q) (sym (take_all (f - opened) new.seen (omega arith)));
          });
          told = told ∙ h.told ∙ ap (λ (c : ℕ). asked m c 0 ls rs) (sym number) ∙ sym (asked_more old.seen new.number 0 ls rs (line.Ask q) (outcome.Read a f) h.heard ∙ append-nil _);
          fronts = fronts ∙ ap (λ zs. zs ++ f ∷ []) h.fronts ∙ sym (fronts_more rs (outcome.Read a f));
          fresh = fresh_more 0 rs (outcome.Read a f) h.fresh (omega arith);
          low = subst (λ (n : ℕ). n ≤ opened + length new.seen) (sym (least_more 0 rs (outcome.Read a f))) (omega arith);
        }

    -- an update, whatever it is told
    pub updated : (old new : Kept) (ls : List (Step C Q)) (rs : List (LineResult R A)) (call : C) (u : Updated R) → HasHeard m order start opened old ls rs → new.number ≡ old.number →
        StartsWith new.seen old.seen → new.fronts ≡ old.fronts →
        new.told ≡ old.told ++ (next_call old (m.call_words call), as_words m u) ∷ [] → IsPlaced opened old.seen new.seen (as_words m u) →
        HasHeard m order start opened new (ls ++ line.Update call ∷ []) (rs ++ outcome.Update u ∷ [])
    updated old new ls rs call u h number later fronts gains place =
        let ends = placed u place in
        let many : length old.told ≡ posted 0 ls = ap length h.told ∙ (let is = as_many old.seen old.number 0 ls rs h.heard in let same : length (asked m old.number 0 ls rs) ≡ posted 0 ls = omega arith in same) in
        record {
          heard = heard_more new.seen ls rs (line.Update call) (outcome.Update u) (heard_on old.seen new.seen ls rs later h.heard) tt;
          told = gains ∙ (λ i. h.told i ++ (record { caller = old.number; seq = many i; args = m.call_words call }, as_words m u) ∷ [])
              ∙ sym (asked_more old.seen old.number 0 ls rs (line.Update call) (outcome.Update u) h.heard) ∙ ap (λ (c : ℕ). asked m c 0 (ls ++ line.Update call ∷ []) (rs ++ outcome.Update u ∷ [])) (sym number);
          fronts = fronts ∙ h.fronts ∙ sym (fronts_more rs (outcome.Update u) ∙ append-nil _);
          fresh = fresh_more 0 rs (outcome.Update u) h.fresh ends.0;
          low = subst (λ (n : ℕ). n ≤ opened + length new.seen) (sym (least_more 0 rs (outcome.Update u))) ends.1;
        }
      where
        long : length new.seen ≡ length old.seen + length later.0
        long = ap length later.1 ∙ length-append old.seen later.0

        placed : (w : Updated R) → IsPlaced opened old.seen new.seen (as_words m w) → IsAtLeast m (least_after_all m 0 rs) (outcome.Update w) × (least_after m (least_after_all m 0 rs) (outcome.Update w) ≤ opened + length new.seen)
        placed (told.Done reply place) at = let low = h.low in let from = at.0 in let to = at.1 in (omega arith, omega arith)
        placed told.Spent at = let low = h.low in let n = long in (tt, omega arith)
        placed told.Failed at = let low = h.low in let n = long in (tt, omega arith)
        placed told.Doubt at = let low = h.low in let n = long in (tt, omega arith)

    -- of a list of lines, one more
    pub heard_next : (v : Kept) (lines : List (Step C Q)) (i : ℕ) (l : Step C Q) (rs qs : List (LineResult R A)) (r : LineResult R A) → i < length lines → l ≡ get_or lines i l → qs ≡ rs ++ r ∷ [] →
        HasHeard m order start opened v (take i lines ++ l ∷ []) (rs ++ r ∷ []) → HasHeard m order start opened v (take (i + 1) lines) qs
    heard_next v lines i l rs qs r lt l_is is h = subst (λ ls. HasHeard m order start opened v ls qs) (ap (λ x. take i lines ++ x ∷ []) l_is ∙ sym (take_more lines i l lt))
        (subst (λ xs. HasHeard m order start opened v (take i lines ++ l ∷ []) xs) (sym is) h)

    -- a caller has posted no more updates than it took lines
    pub told_few : (v : Kept) (ls : List (Step C Q)) (rs : List (LineResult R A)) → HasHeard m order start opened v ls rs → length v.told ≤ length ls
    told_few v ls rs h = let many = ap length h.told in let is = as_many v.seen v.number 0 ls rs h.heard in let few = posted_few 0 ls in omega arith
