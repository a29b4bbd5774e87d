-- The nodes of a bucket's chain, and the words that a linking of them leaves.
use Rattle.std.specs.Prelude.{◌≡◌, ◌≢◌, ℕ, ◌+◌, ◌-◌, ◌^◌, ◌<◌, ◌≤◌, List, map, length, slice_index}
use Rattle.rom_model.specs.Blocks.{block_of}
use Rattle.rom_model.specs.Chains.{times, Chain, each_word}
use Rattle.rom_model.specs.Region.{buckets}
use Rattle.rom_model.specs.Links.{AreNodes}
use Rattle.rom_heap.specs.declared.renew.node.Node.{Node}

-- the word of the bucket table that links to a bucket's first node
abbrev pub head_of : ℕ → ℕ → ℕ
head_of n i = block_of n 0 + i

-- the key of each of the blocks, and where the block begins
abbrev pub nodes_of : ℕ → List ℕ → List ℕ → List Node
nodes_of n words blocks = map (λ b. record { key = slice_index words (block_of n b + 0); at = block_of n b }) blocks

-- different blocks behind the bucket table, which is the first 2 ^ (n - 4) blocks
pub record AreBehind (n : ℕ) (blocks : List ℕ) : Type 0 where
  pub are : AreNodes n blocks
  pub behind : (b : ℕ) → 0 < times b blocks → 2 ^ (n - 4) ≤ b

-- The bucket's chain has these blocks, and no key stands twice in it. The keys may stand in any order.
pub record IsOldBucket (n i : ℕ) (words blocks : List ℕ) : Type 0 where
  pub number : i < buckets n
  pub chain : Chain n words (head_of n i) 2 blocks
  pub blocks_are : AreBehind n blocks
  pub keys_differ : (key : ℕ) → times key (each_word n words 0 blocks) ≤ 1

-- the nodes begin where these blocks do
pub record BeginAtBlocks (n : ℕ) (nodes : List Node) (blocks : List ℕ) : Type 0 where
  pub begin : map (λ node. node.at) nodes ≡ map (block_of n) blocks
  pub blocks_are : AreBehind n blocks

-- No word differs but the bucket's word in the table and the links of these blocks.
pub record ChangesLinks (n i : ℕ) (blocks old new : List ℕ) : Type 0 where
  pub as_long : length new ≡ length old
  pub others : (k : ℕ) → k ≢ head_of n i → ((b : ℕ) → 0 < times b blocks → k ≢ block_of n b + 2) → slice_index new k ≡ slice_index old k
