-- The root words of a new heap.
use Rattle.std.specs.Prelude.{◌≡◌, ◌≢◌, ℕ, ◌<◌, List, slice_index}
use Rattle.rom_model.specs.Blocks.{block_of}

-- The root words of an empty region that has counted no update, without the last, which is the tree's word 0: the kind, the version, the bucket table's offset, and zeros.
pub record IsFreshBlobRoot (n : ℕ) (words : List ℕ) : Type 0 where
  pub kind : slice_index words 0 ≡ 2
  pub version : slice_index words 1 ≡ 1
  pub table : slice_index words 8 ≡ block_of n 0
  pub zeros : (k : ℕ) → k < 16 → k ≢ 0 → k ≢ 1 → k ≢ 8 → slice_index words k ≡ 0
