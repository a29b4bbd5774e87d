-- What the calls on the set leave of a well-formed region.
use Rattle.std.specs.Prelude.{◌≡◌, ℕ, ◌+◌, ◌*◌, ◌^◌, ◌<◌, true, false, List, ◌∷◌, ◌++◌, slice_index}
use Rattle.std.specs.Ordering.{nat_cmp}
use Rattle.std.specs.FinSet as set
use Rattle.rom_model.specs.Space.{ShownSpace, Looks}
use Rattle.rom_model.specs.State.{State, live, cap}
use Rattle.rom_model.specs.Blocks.{IsLowest, block_of}
use Rattle.rom_model.specs.Region.{Chains, element_blocks, taken_by, Contents, PartBecomes}
use Rattle.rom_set.specs.declared.set.Inserted.{Inserted}
use Rattle.rom_set.specs.declared.set.Inserted.TheVariants.{New, There, Full}

-- the state with these numbers in its set
abbrev pub with_members : State → set.FinSet nat_cmp → State
with_members s members = record s { members = members }

-- the chains with these blocks as the set's
abbrev pub with_set_blocks : Chains → List ℕ → Chains
with_set_blocks p blocks = record p { set = blocks }

-- What an insertion tells, and the words that it leaves. There is one answer that fits.
abbrev pub IsInserted : ℕ → State → ℕ → ℕ → Inserted → List ℕ → Type 0
IsInserted n s count key New new = (set.contains s.members key ≡ false) × (live s < cap n) × Contents n new (with_members s (set.insert s.members key)) count
IsInserted n s count key There new = set.contains s.members key ≡ true
IsInserted n s count key Full new = (set.contains s.members key ≡ false) × (live s ≡ cap n)

-- what holds where the number was inserted
abbrev pub OnNew : Inserted → Type 0 → Type 0
OnNew New holds = holds
OnNew There holds = Unit {0}
OnNew Full holds = Unit {0}

-- Where it was not, the words stay, nothing is stored, and so many loads are made at most where the set has
-- so many numbers below this one.
abbrev pub KeepsUnlessNew : {M : Type 0} → ShownSpace M → ℕ → ℕ → Inserted → M → M → Type 0
KeepsUnlessNew shown n below New old new = Unit {0}
KeepsUnlessNew shown n below There old new = Looks shown (2 + 2 * below) old new
KeepsUnlessNew shown n below Full old new = Looks shown (n + 3 + 2 * below) old new

-- The number stands in the first block that was free, which was put into the set's chain, and each other
-- element keeps its block. No word differs but the set's root words, the tree's, and those of the set's blocks.
pub record IsAddedToSet (n : ℕ) (old : List ℕ) (p : Chains) (s : State) (count key : ℕ) (new : List ℕ) : Type 0 where
  pub block : ℕ
  pub lowest : IsLowest n (taken_by n (element_blocks n p)) 0 (2 ^ n + block)
  pub holds : slice_index new (block_of n block + 0) ≡ key
  pub front : List ℕ
  pub back : List ℕ
  pub blocks : p.set ≡ front ++ back
  pub becomes : PartBecomes n 6 8 (front ++ block ∷ back) old new (with_set_blocks p (front ++ block ∷ back)) (with_members s (set.insert s.members key)) count

-- The number's block is no longer in the set's chain, and its words stay. Each other element keeps its
-- block. No word differs but the set's root words, the tree's, and those of the set's blocks before.
pub record IsRemoved (n : ℕ) (old : List ℕ) (p : Chains) (s : State) (count key : ℕ) (new : List ℕ) : Type 0 where
  pub block : ℕ
  pub holds : slice_index old (block_of n block + 0) ≡ key
  pub front : List ℕ
  pub back : List ℕ
  pub blocks : p.set ≡ front ++ block ∷ back
  pub kept : (j : ℕ) → j < 4 → slice_index new (block_of n block + j) ≡ slice_index old (block_of n block + j)
  pub becomes : PartBecomes n 6 8 p.set old new (with_set_blocks p (front ++ back)) (with_members s (set.remove s.members key)) count
