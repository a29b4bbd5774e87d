-- What the lines of scripts make of a state, and the scripts that make a state again.
use Rattle.std.specs.Prelude.{◌≡◌, ℕ, ◌+◌, List, [], ◌∷◌, length}
use Rattle.std.specs.List.{AllByRecursion, flat_map}
use Rattle.rom_model.specs.Machine.{Machine}
use Rattle.rom_model.specs.declared.line.Step.{Step}
use Rattle.rom_model.specs.declared.line.Step.TheVariants.{Update, Ask, Unread}
use Rattle.rom_text.specs.Lines.{AreRead, lines_of}

-- Lines that are taken one after another, by one caller, in a heap of this order. An update takes a place; a query does nothing.
module _ {S C Q R A : Type 0} (machine : Machine S C Q R A) (order : ℕ) where
  -- the state after them, from a state and a count
  abbrev pub after_steps : S → ℕ → List (Step C Q) → S
  after_steps s count [] = s
  after_steps s count (Update call ∷ steps) = after_steps (machine.step order s count call).0 (count + 1) steps
  after_steps s count (Ask query ∷ steps) = after_steps s count steps
  after_steps s count (Unread ∷ steps) = after_steps s count steps

  -- what the updates are told
  abbrev pub told_by_steps : S → ℕ → List (Step C Q) → List R
  told_by_steps s count [] = []
  told_by_steps s count (Update call ∷ steps) = (machine.step order s count call).1 ∷ told_by_steps (machine.step order s count call).0 (count + 1) steps
  told_by_steps s count (Ask query ∷ steps) = told_by_steps s count steps
  told_by_steps s count (Unread ∷ steps) = told_by_steps s count steps

module _ {S C Q R A : Type 0} (machine : Machine S C Q R A) (Reads : List ℕ → Step C Q → Type 0) (Same : S → S → Type 0) (Refused : R → Type 0) where
  -- each script, read by itself as scripts are read, has these steps
  abbrev pub AreEachRead : List (List ℕ) → List (List (Step C Q)) → Type 0
  AreEachRead [] [] = Unit {0}
  AreEachRead (bytes ∷ scripts) (steps ∷ each_of) = AreRead Reads (lines_of bytes) steps × AreEachRead scripts each_of
  AreEachRead scripts each_of = ⊥

  -- Steps that are all updates. Taken from the empty state in a new heap of this order they give the same as this state, and none is refused.
  pub record Rebuild (order : ℕ) (steps : List (Step C Q)) (s : S) : Type 0 where
    pub same : Same s (after_steps machine order machine.empty 0 steps)
    pub none_refused : AllByRecursion (λ reply. Refused reply → ⊥) (told_by_steps machine order machine.empty 0 steps)
    pub answered : length (told_by_steps machine order machine.empty 0 steps) ≡ length steps

  -- Scripts that are run one after another in a new heap of this order: what their lines ask for, each script read by itself as scripts are read, rebuilds this state.
  pub record Rebuilds (order : ℕ) (scripts : List (List ℕ)) (s : S) : Type 0 where
    pub each_of : List (List (Step C Q))
    pub read : AreEachRead scripts each_of
    pub rebuild : Rebuild order (flat_map (λ steps. steps) each_of) s
