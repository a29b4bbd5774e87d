-- What a caller was told of its lines, as far as it has seen the history.
use Rattle.std.specs.Prelude.{◌≡◌, ℕ, ◌+◌, ◌-◌, ◌≤◌, List, [], ◌∷◌, length, take}
use Rattle.rom_model.specs.declared.entry.Entry.{Entry}
use Rattle.rom_model.specs.declared.line.Step.{Step}
use Rattle.rom_model.specs.declared.line.Step.TheVariants as line
use Rattle.rom_model.specs.declared.line.LineResult.{LineResult}
use Rattle.rom_model.specs.declared.line.LineResult.TheVariants as outcome
use Rattle.rom_model.specs.History.{after}
use Rattle.rom_model.specs.Lawful.{IsFresh, asked, least_after}
use Rattle.rom_model.specs.Machine.{Machine, on_words}
use Rattle.rom_model.specs.declared.kept.Kept.{Kept}

module _ {S C Q R A : Type 0} (m : Machine S C Q R A) where
  -- the fronts of the reads among the results
  abbrev pub fronts_of : List (LineResult R A) → List ℕ
  fronts_of [] = []
  fronts_of (outcome.Read answer front ∷ results) = front ∷ fronts_of results
  fronts_of (other ∷ results) = fronts_of results

  -- the least place and the least front that may follow the results
  abbrev pub least_after_all : ℕ → List (LineResult R A) → ℕ
  least_after_all low [] = low
  least_after_all low (r ∷ results) = least_after_all (least_after m low r) results

  -- Of a heap's order, its state and its count at opening:
  module _ (order : ℕ) (start : S) (opened : ℕ) where
    -- The answer is what the query is told in the state after the seen updates up to this front.
    pub record IsSeenAt (seen : List Entry) (query : Q) (answer : A) (front : ℕ) : Type 0 where
      pub since : opened ≤ front
      pub reached : front ≤ opened + length seen
      pub answer_is : answer ≡ m.tell (after (on_words m) order start opened (take (front - opened) seen)) query

    -- the result is of the line's kind, and a read's answer was seen
    abbrev pub IsHeard : List Entry → Step C Q → LineResult R A → Type 0
    IsHeard seen line.Unread outcome.Unread = Unit {0}
    IsHeard seen (line.Update call) (outcome.Update updated) = Unit {0}
    IsHeard seen (line.Ask query) (outcome.Read answer front) = IsSeenAt seen query answer front
    IsHeard seen other result = ⊥

    -- one result for each line
    abbrev pub AreHeard : List Entry → List (Step C Q) → List (LineResult R A) → Type 0
    AreHeard seen [] [] = Unit {0}
    AreHeard seen (l ∷ lines) (r ∷ results) = IsHeard seen l r × AreHeard seen lines results
    AreHeard seen lines results = ⊥

    -- What a caller was told of these lines is what it keeps.
    pub record HasHeard (v : Kept) (lines : List (Step C Q)) (results : List (LineResult R A)) : Type 0 where
      pub heard : AreHeard v.seen lines results
      pub told : v.told ≡ asked m v.number 0 lines results
      pub fronts : v.fronts ≡ fronts_of results
      pub fresh : IsFresh m 0 results
      -- it has seen all that it was told of
      pub low : least_after_all 0 results ≤ opened + length v.seen
