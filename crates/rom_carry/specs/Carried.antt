-- The lines that carry a state over, and a state that a greater region stands for.
use Rattle.std.specs.Prelude.{ℕ, ◌*◌, ◌≤◌, List, [], ◌∷◌, length}
use Rattle.std.specs.List.{AllByRecursion}
use Rattle.rom_model.specs.Blocks.{IsOrder}
use Rattle.rom_model.specs.Machine.{Machine}
use Rattle.rom_model.specs.declared.line.Step.{Step}
use Rattle.rom_text.specs.Lines.{AreRead}
use Rattle.rom_carry.specs.Rebuilds.{Rebuild, Rebuilds}
use Rattle.rom_carry.specs.Scripts.{IsPlain, parts_of, script_of}

-- how long lines are at most, how many lines a part of them has, and how many parts they are at most
pub record Bounds : Type 0 where
  pub longest : ℕ
  pub part : ℕ
  pub parts : ℕ

-- Lines as they stand in scripts, so many at most, and so long.
pub record AreWritten (bounds : Bounds) (lines : List (List ℕ)) : Type 0 where
  pub few : length lines ≤ bounds.part * bounds.parts
  pub short : AllByRecursion (λ line. length line ≤ bounds.longest) lines
  pub plain : AllByRecursion IsPlain lines

module _ {S C Q R A : Type 0} (machine : Machine S C Q R A) (Reads : List ℕ → Step C Q → Type 0) (Same : S → S → Type 0) (Refused : R → Type 0) where
  -- The lines are updates that rebuild this state in a heap of this order.
  pub record RebuildLines (order : ℕ) (lines : List (List ℕ)) (s : S) : Type 0 where
    pub steps : List (Step C Q)
    pub read : AreRead Reads lines steps
    pub rebuild : Rebuild machine Reads Same Refused order steps s

  -- These lines carry this state over from a heap of this order: in a new heap of this order, and of each greater one, they rebuild it as one script, and as the scripts of their parts, run one after another.
  pub record AreCarrying (bounds : Bounds) (order : ℕ) (s : S) (lines : List (List ℕ)) : Type 0 where
    pub whole : (greater : ℕ) → order ≤ greater → IsOrder greater → Rebuilds machine Reads Same Refused greater (script_of lines ∷ []) s
    pub in_parts : (greater : ℕ) → order ≤ greater → IsOrder greater → Rebuilds machine Reads Same Refused greater (parts_of bounds.part bounds.parts lines) s

-- what stands in these words is carried over, for each state and count that they stand for
abbrev pub CarriesOver : {S : Type 0} → (ℕ → List ℕ → S → ℕ → Type 0) → (ℕ → S → List (List ℕ) → Type 0) → ℕ → List ℕ → List (List ℕ) → Type 0
CarriesOver {S} Contents Carries order words lines = (s : S) (k : ℕ) → Contents order words s k → Carries order s lines

-- this text is what is told of each state and count that these words stand for
abbrev pub TellsOf : {S : Type 0} → (ℕ → List ℕ → S → ℕ → Type 0) → (ℕ → S → ℕ → List ℕ → Type 0) → ℕ → List ℕ → List ℕ → Type 0
TellsOf {S} Contents Tells order words text = (s : S) (k : ℕ) → Contents order words s k → Tells order s k text

-- The new words stand, in the greater order, for a state that is kept of each state and count that the old ones stand for, and for the same count.
abbrev pub StaysIn : {S : Type 0} → (ℕ → List ℕ → S → ℕ → Type 0) → (S → S → Type 0) → ℕ → List ℕ → ℕ → List ℕ → Type 0
StaysIn {S} Contents Kept order words greater new = (s : S) (k : ℕ) → Contents order words s k → (t : S) × Kept s t × Contents greater new t k
