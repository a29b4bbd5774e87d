-- Keys in the chains of their buckets, whatever else their nodes hold.
use Rattle.std.specs.Prelude.{◌≡◌, ℕ, ◌+◌, ◌-◌, ◌^◌, ◌<◌, ◌≤◌, ◌==◌, if◌then◌else◌, List, ◌∷◌, ◌++◌, map, filter, length, slice_index}
use Rattle.std.specs.Ordering.{nat_cmp}
use Rattle.std.specs.FinMap as finite
use Rattle.rom_model.specs.Blocks.{block_of}
use Rattle.rom_model.specs.Chains.{times, Chain, each_word}
use Rattle.rom_model.specs.Region.{buckets, bucket_of, all_of}
use Rattle.rom_model.specs.Links.{link_after, first_of}
use Rattle.rom_bucket.specs.Walk.{head_of}
use Rattle.rom_bucket.specs.declared.walk.Place.{Place}

-- the blocks of all buckets, one bucket after another
abbrev pub blocks_of_buckets : ℕ → (ℕ → List ℕ) → List ℕ
blocks_of_buckets n bucket = all_of bucket (buckets n)

-- the same chains, but for one bucket's
abbrev pub with_chain : (ℕ → List ℕ) → ℕ → List ℕ → ℕ → List ℕ
with_chain bucket i blocks j = if j == i then blocks else bucket j

-- The keys stand in these blocks, each in its bucket's chain and no key twice, and the word at the offset
-- `size` tells how many there are. The first word of a block is its key, and the third its link. The
-- first 2 ^ (n - 4) blocks are the bucket table.
pub record AreBuckets (n size : ℕ) (words : List ℕ) (bucket : ℕ → List ℕ) : Type 0 where
  pub chains : (i : ℕ) → i < buckets n → Chain n words (head_of n i) 2 (bucket i)
  pub len : slice_index words size ≡ length (blocks_of_buckets n bucket)
  pub own_bucket : (i b : ℕ) → i < buckets n → 0 < times b (bucket i) → bucket_of n (slice_index words (block_of n b + 0)) ≡ i
  pub keys_differ : (i key : ℕ) → i < buckets n → times key (each_word n words 0 (bucket i)) ≤ 1
  pub different : (b : ℕ) → times b (blocks_of_buckets n bucket) ≤ 1
  pub within : (b : ℕ) → 0 < times b (blocks_of_buckets n bucket) → (2 ^ (n - 4) ≤ b) × (b < 2 ^ n)

-- The place stands between these blocks of the chain of the key's bucket.
pub record Between (n : ℕ) (bucket : ℕ → List ℕ) (key : ℕ) (place : Place) : Type 0 where
  pub front : List ℕ
  pub back : List ℕ
  pub blocks : bucket (bucket_of n key) ≡ front ++ back
  pub link_is : place.link ≡ link_after n (head_of n (bucket_of n key)) 2 front
  pub node_is : place.node ≡ first_of n back

-- The key has a node, which begins where the place tells: its block, and those before and behind it in
-- the chain of the key's bucket.
pub record There (n : ℕ) (words : List ℕ) (bucket : ℕ → List ℕ) (key : ℕ) (place : Place) : Type 0 where
  pub front : List ℕ
  pub block : ℕ
  pub back : List ℕ
  pub blocks : bucket (bucket_of n key) ≡ front ++ block ∷ back
  pub holds : slice_index words (block_of n block + 0) ≡ key
  pub node_is : place.node ≡ block_of n block
  pub link_is : place.link ≡ link_after n (head_of n (bucket_of n key)) 2 front
  pub within : (2 ^ (n - 4) ≤ block) × (block < 2 ^ n)
  pub among : 0 < times block (blocks_of_buckets n bucket)

-- each block's key, with what the key has there
abbrev pub entries_of : {V : Type 0} → ℕ → List ℕ → (ℕ → V) → List ℕ → List (ℕ × V)
entries_of n words value blocks = map (λ b. (slice_index words (block_of n b + 0), value b)) blocks

-- all keys, each with what it has
abbrev pub keyed : {V : Type 0} → ℕ → List ℕ → (ℕ → V) → (ℕ → List ℕ) → finite.FinMap nat_cmp V
keyed n words value bucket = finite.from_entries (entries_of n words value (blocks_of_buckets n bucket))

-- of the keys those in the bucket of this one
abbrev pub keys_beside : {V : Type 0} → ℕ → finite.FinMap nat_cmp V → ℕ → ℕ
keys_beside n kept key = length (filter (λ k. bucket_of n k == bucket_of n key) (finite.keys kept))
