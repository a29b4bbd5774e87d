-- What a renewal leaves of a bucket, and of a region.
use Rattle.std.specs.Prelude.{◌≡◌, ◌≢◌, ◌⊎◌, ℕ, ◌+◌, ◌<◌, ◌≤◌, List, length, slice_index, IsPermutation}
use Rattle.rom_model.specs.Blocks.{block_of}
use Rattle.rom_model.specs.Chains.{times, Chain, each_word}
use Rattle.rom_model.specs.Rising.{IsRising}
use Rattle.rom_model.specs.Region.{Chains, buckets, map_blocks}
use Rattle.rom_heap.specs.Node.{head_of, ChangesLinks}

-- The bucket's chain, which had these blocks, has the same blocks so that their keys rise, and no word differs but its links.
pub record IsSortedBucket (n i : ℕ) (blocks old new : List ℕ) : Type 0 where
  pub sorted : List ℕ
  pub same : IsPermutation blocks sorted
  pub chain : Chain n new (head_of n i) 2 sorted
  pub rising : IsRising (each_word n new 0 sorted)
  pub others : ChangesLinks n i blocks old new

-- No word differs but the version at the offset 1, the words of the bucket table, and the links of the map's nodes.
pub record KeepsElements (n : ℕ) (p : Chains) (old new : List ℕ) : Type 0 where
  pub as_long : length new ≡ length old
  pub others : (k : ℕ) → k ≢ 1 → (k < head_of n 0) ⊎ (head_of n (buckets n) ≤ k) → ((b : ℕ) → 0 < times b (map_blocks n p) → k ≢ block_of n b + 2) → slice_index new k ≡ slice_index old k
