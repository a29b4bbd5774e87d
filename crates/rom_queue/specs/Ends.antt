-- Both ends of a queue in the words of a region.
use Rattle.std.specs.Prelude.{◌≡◌, ◌≢◌, ℕ, ◌+◌, ◌^◌, ◌<◌, List, [], ◌∷◌, ◌++◌, length, slice_index}
use Rattle.rom_model.specs.Space.{ChangesOnly}
use Rattle.rom_model.specs.Blocks.{block_of}
use Rattle.rom_model.specs.Chains.{times, each_word}
use Rattle.rom_model.specs.Links.{AreNodes, KeepsTree}
use Rattle.rom_model.specs.Region.{IsQueue, ChangesPart}

-- That link is to the node that begins there, which is the tail; there is one value more, and no other word differs.
pub record IsTailLinked (link at : ℕ) (old new : List ℕ) : Type 0 where
  pub as_long : length new ≡ length old
  pub linked : slice_index new link ≡ at
  pub tail : slice_index new 4 ≡ at
  pub len : slice_index new 5 ≡ slice_index old 5 + 1
  pub others : (k : ℕ) → k ≢ link → k ≢ 4 → k ≢ 5 → slice_index new k ≡ slice_index old k

-- The node that begins there is the head. 0 is none, and then there is no tail; no other word differs.
pub record HasHead (at : ℕ) (old new : List ℕ) : Type 0 where
  pub head : slice_index new 3 ≡ at
  pub none : at ≡ 0 → slice_index new 4 ≡ 0
  pub tail : at ≢ 0 → slice_index new 4 ≡ slice_index old 4
  pub others : ChangesOnly 3 2 old new

-- a queue in the words, and where a block begins that is not in it
pub record MayTake (n at : ℕ) (words : List ℕ) : Type 0 where
  pub block : ℕ
  pub here : at ≡ block_of n block
  pub inside : block < 2 ^ n
  pub blocks : List ℕ
  pub values : List ℕ
  pub queue : IsQueue n words blocks values
  pub are : AreNodes n blocks
  pub absent : times block blocks ≡ 0

-- The block stands at the end of the queue with the value, and no word differs but the queue's and the block's.
pub record IsAppended {n at : ℕ} {old : List ℕ} (q : MayTake n at old) (value : ℕ) (new : List ℕ) : Type 0 where
  pub queue : IsQueue n new (q.blocks ++ q.block ∷ []) (q.values ++ value ∷ [])
  pub others : ChangesPart n 3 6 (q.blocks ++ q.block ∷ []) old new
  pub tree : KeepsTree n old new

-- a queue in the words whose first block begins there
pub record BeginsQueue (n at : ℕ) (words : List ℕ) : Type 0 where
  pub block : ℕ
  pub here : at ≡ block_of n block
  pub inside : block < 2 ^ n
  pub behind : List ℕ
  pub values : List ℕ
  pub queue : IsQueue n words (block ∷ behind) values

-- the queue has lost its first block, and each block behind still has its word
abbrev pub IsHeadUnlinked : {n at : ℕ} {old : List ℕ} → BeginsQueue n at old → List ℕ → Type 0
IsHeadUnlinked {n} {at} {old} q new = IsQueue n new q.behind (each_word n old 0 q.behind)
