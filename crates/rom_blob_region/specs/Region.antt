-- The words of a well-formed region of keys with bytes, and the state and the count that they stand for.
-- Here a key's node is named by the number of its unit, as in `rom_bucket`. The state names each block by its
-- node in the allocator's tree, as in `rom_block`.
use Rattle.std.specs.Prelude.{◌≡◌, ◌≢◌, ℕ, ◌+◌, ◌-◌, ◌*◌, ◌/◌, ◌^◌, ◌<◌, ◌≤◌, ◌==◌, List, [], ◌∷◌, ◌++◌, Some, None, if◌then◌else◌, length, slice_index}
use Rattle.rom_model.specs.Blocks.{IsOrder, IsNode, IsDisjoint, AreWords, block_of, block_at, region_len}
use Rattle.rom_model.specs.Chains.{times}
use Rattle.rom_model.specs.History.{LAST_COUNT}
use Rattle.rom_bucket.specs.Buckets.{blocks_of_buckets, AreBuckets, keyed}
use Rattle.rom_blob_region.specs.Bytes.{bytes_at, EndsInZeros}
use Rattle.rom_blob_region.specs.State.{Blob, BlobState, order_for, blocks_in, taken_with}

-- the root words, but for the number of keys, which is word 3
pub record IsBlobRoot (n : ℕ) (words : List ℕ) (count : ℕ) : Type 0 where
  pub kind : slice_index words 0 ≡ 2
  pub version : slice_index words 1 ≡ 1
  pub count_is : slice_index words 2 ≡ count
  pub count_fits : count ≤ LAST_COUNT
  pub table : slice_index words 8 ≡ block_of n 0
  pub low_zeros : (k : ℕ) → 4 ≤ k → k ≤ 7 → slice_index words k ≡ 0
  pub high_zeros : (k : ℕ) → 9 ≤ k → k ≤ 16 → slice_index words k ≡ 0

-- how many bytes a node's key has
abbrev pub len_at : ℕ → List ℕ → ℕ → ℕ
len_at n words b = slice_index words (block_of n b + 1)

-- where a node's bytes begin, or 0
abbrev pub data_at : ℕ → List ℕ → ℕ → ℕ
data_at n words b = slice_index words (block_of n b + 3)

-- the node of the block of that order that begins there
abbrev pub node_of : ℕ → ℕ → ℕ → ℕ
node_of n order at = (2 ^ n + (at - 16 - 2 * 2 ^ n) / 4) / 2 ^ order

-- what the key has whose node is that unit
abbrev pub blob_at : ℕ → List ℕ → ℕ → Blob
blob_at n words b = record {
  bytes = bytes_at words (data_at n words b) (len_at n words b);
  node = 2 ^ n + b;
  body = if len_at n words b == 0 then None else Some (node_of n (order_for (len_at n words b)) (data_at n words b));
}

-- The second word of a node is the length of its bytes, and the fourth where they begin: 0 where there
-- are none, and else where a block of the least order begins that has room for them. A key without bytes
-- is a key all the same, and has its node.
pub record IsBlob (n : ℕ) (words : List ℕ) (b : ℕ) : Type 0 where
  pub few : len_at n words b ≤ 256
  pub bare : len_at n words b ≡ 0 → data_at n words b ≡ 0
  pub block : len_at n words b ≢ 0 → (x : ℕ) × IsNode (n - order_for (len_at n words b)) x × (data_at n words b ≡ block_at n (order_for (len_at n words b)) x)
  pub ends : len_at n words b ≢ 0 → EndsInZeros words (data_at n words b) (len_at n words b)

-- the blocks of these units' keys
abbrev pub held_by : (ℕ → Blob) → List ℕ → List ℕ
held_by blob [] = []
held_by blob (b ∷ units) = blocks_in (blob b) ++ held_by blob units

-- different blocks, none of which lies in another or in the bucket table
pub record AreBlobsApart (n : ℕ) (blocks : List ℕ) : Type 0 where
  pub different : (x : ℕ) → times x blocks ≤ 1
  pub beside : times 16 blocks ≡ 0
  pub disjoint : IsDisjoint n (taken_with blocks)

-- A well-formed region with these chains. Its order is one of those that there are, 4 to 16.
pub record IsBlobs (n : ℕ) (words : List ℕ) (bucket : ℕ → List ℕ) (s : BlobState) (count : ℕ) : Type 0 where
  pub order : IsOrder n
  pub as_long : length words ≡ region_len n
  pub root : IsBlobRoot n words count
  pub keys : AreBuckets n 3 words bucket
  pub blobs : (b : ℕ) → 0 < times b (blocks_of_buckets n bucket) → IsBlob n words b
  pub state_is : keyed n words (blob_at n words) bucket ≡ s
  pub apart : AreBlobsApart n (held_by (blob_at n words) (blocks_of_buckets n bucket))
  pub tree : AreWords n (taken_with (held_by (blob_at n words) (blocks_of_buckets n bucket))) words

-- The region is well-formed, and stands for this state and count.
abbrev pub BlobContents : ℕ → List ℕ → BlobState → ℕ → Type 0
BlobContents n words s count = (bucket : ℕ → List ℕ) × IsBlobs n words bucket s count
