-- What the calls on the queue leave of a well-formed region.
use Rattle.std.specs.Prelude.{◌≡◌, ℕ, ◌+◌, ◌^◌, ◌<◌, List, [], ◌∷◌, ◌++◌, slice_index}
use Rattle.rom_model.specs.State.{State}
use Rattle.rom_model.specs.Blocks.{IsLowest, block_of}
use Rattle.rom_model.specs.Region.{Chains, element_blocks, taken_by, PartBecomes, Contents}

-- the state with these values in its queue
abbrev pub with_queue : State → List ℕ → State
with_queue s values = record s { queue = values }

-- the state with a value at its queue's end
abbrev pub with_last : State → ℕ → State
with_last s value = with_queue s (s.queue ++ value ∷ [])

-- the chains with these blocks as the queue's
abbrev pub with_queue_blocks : Chains → List ℕ → Chains
with_queue_blocks p blocks = record p { queue = blocks }

-- The value stands at the end of the queue, in the first block that was free, and each other element
-- keeps its block. No word differs but the queue's root words, the tree's, and those of the queue's blocks.
pub record IsPushed {n : ℕ} {old : List ℕ} {s : State} {count : ℕ} (held : Contents n old s count) (value : ℕ) (new : List ℕ) : Type 0 where
  pub block : ℕ
  pub lowest : IsLowest n (taken_by n (element_blocks n held.0)) 0 (2 ^ n + block)
  pub becomes : PartBecomes n 3 6 (held.0.queue ++ block ∷ []) old new (with_queue_blocks held.0 (held.0.queue ++ block ∷ [])) (with_last s value) count

-- The value was the queue's first, its block is no longer the queue's, and the block's words stay. Each
-- other element keeps its block. No word differs but the queue's root words, the tree's, and those of the
-- queue's blocks before.
pub record IsPopped {n : ℕ} {old : List ℕ} {s : State} {count : ℕ} (held : Contents n old s count) (value : ℕ) (new : List ℕ) : Type 0 where
  pub block : ℕ
  pub behind : List ℕ
  pub blocks : held.0.queue ≡ block ∷ behind
  pub rest : List ℕ
  pub values : s.queue ≡ value ∷ rest
  pub kept : (j : ℕ) → j < 4 → slice_index new (block_of n block + j) ≡ slice_index old (block_of n block + j)
  pub becomes : PartBecomes n 3 6 held.0.queue old new (with_queue_blocks held.0 behind) (with_queue s rest) count
