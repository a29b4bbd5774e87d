-- Walks along the chains of a region: which blocks they reach, and where they break. Lists of blocks
-- that were reached have the last first, and a block is named by its number.
use Rattle.std.specs.Prelude.{◌≡◌, ◌≢◌, ◌⊎◌, ℕ, ◌+◌, ◌-◌, ◌*◌, ◌^◌, ◌<◌, ◌≤◌, Bool, true, ◌==◌, nat_lt, nat_le, List, [], ◌∷◌, ◌++◌, length, Result, Ok, Err, slice_index}
use Rattle.rom_model.specs.Blocks.{block_of}
use Rattle.rom_model.specs.Chains.{times, each_word}
use Rattle.rom_model.specs.Region.{bucket_of, buckets, taken_by}
use Rattle.rom_model.specs.Tests.{Test, test, checked, are_zero}
use Rattle.rom_model.specs.declared.unfit.Break.{Break}
use Rattle.rom_model.specs.declared.unfit.Rule.TheVariants.{Link, Pad, Order, Bucket, Repeat, Stamp}
use Rattle.rom_block.specs.Levels.{IsMarked}
use Rattle.rom_heap.specs.declared.inspect.version.Version.{Version}
use Rattle.rom_heap.specs.declared.inspect.version.Version.TheVariants as version
use Rattle.rom_heap.specs.declared.inspect.walk.Reached.{Reached}
use Rattle.rom_heap.specs.declared.inspect.walk.Walk.{Walk}
use Rattle.rom_heap.specs.declared.inspect.walk.Walk.TheVariants as along
use Rattle.rom_heap.specs.Tests.{newest}

-- The link at that offset leads to this block, which is none of the bucket table and none of those that
-- were reached before.
pub record LeadsTo (n : ℕ) (words seen : List ℕ) (link b : ℕ) : Type 0 where
  pub here : slice_index words link ≡ block_of n b
  pub least : 2 ^ (n - 4) ≤ b
  pub most : b < 2 ^ n
  pub fresh : times b seen ≡ 0

-- where a chain's first link stands
abbrev pub first_link : ℕ → Walk → ℕ
first_link n along.Queue = 3
first_link n along.Set = 6
first_link n (along.OldBucket i) = block_of n 0 + i
first_link n (along.Bucket i) = block_of n 0 + i

-- the walk along the chain of the bucket with that number
abbrev pub bucket_walk : Version → ℕ → Walk
bucket_walk version.Old i = along.OldBucket i
bucket_walk version.Now i = along.Bucket i

-- which word of a node is its link to the next
abbrev pub next_word : Walk → ℕ
next_word along.Queue = 1
next_word along.Set = 1
next_word (along.OldBucket i) = 2
next_word (along.Bucket i) = 2

-- the key of a block, which is the first of its words
abbrev pub key_of : ℕ → List ℕ → ℕ → ℕ
key_of n words b = slice_index words (block_of n b + 0)

-- whether a key is above that of the last of these blocks, or there is none
abbrev pub is_above : ℕ → List ℕ → List ℕ → ℕ → Bool
is_above n words [] key = true
is_above n words (b ∷ before) key = nat_lt (key_of n words b) key

-- The tests of a node behind these blocks of its chain. What it does not use of its block is 0; the set's
-- keys rise; a key of the map stands in its own bucket, whose keys rise, with a stamp that is at most the
-- count. In version 1 there was no stamp, and a bucket's keys stood in any order, none of them twice.
abbrev pub node_tests : ℕ → List ℕ → Walk → List ℕ → ℕ → List Test
node_tests n words along.Queue before b = are_zero words (block_of n b + 2) 2 Pad
node_tests n words along.Set before b = are_zero words (block_of n b + 2) 2 Pad ++ test (block_of n b) Order (is_above n words before (key_of n words b)) ∷ []
node_tests n words (along.OldBucket i) before b =
    are_zero words (block_of n b + 3) 1 Pad
    ++ (test (block_of n b) Bucket (bucket_of n (key_of n words b) == i) ∷ test (block_of n b) Repeat (times (key_of n words b) (each_word n words 0 before) == 0) ∷ [])
node_tests n words (along.Bucket i) before b =
    test (block_of n b + 3) Stamp (nat_le (slice_index words (block_of n b + 3)) (slice_index words 2))
    ∷ test (block_of n b) Bucket (bucket_of n (key_of n words b) == i) ∷ test (block_of n b) Order (is_above n words before (key_of n words b)) ∷ []

-- where the next link stands behind these blocks
abbrev pub next_link : ℕ → Walk → List ℕ → ℕ
next_link n walk [] = first_link n walk
next_link n walk (b ∷ before) = block_of n b + next_word walk

-- The walk reaches these blocks: each is led to by the link behind those before it, and passes its
-- tests. The blocks `seen` were reached before the walk.
abbrev pub Reaches : ℕ → List ℕ → Walk → List ℕ → List ℕ → Type 0
Reaches n words walk seen [] = Unit {0}
Reaches n words walk seen (b ∷ before) =
    Reaches n words walk seen before × LeadsTo n words (before ++ seen) (next_link n walk before) b × (checked (node_tests n words walk before b) ≡ Ok tt)

-- Behind these blocks stands a link that is not 0 and leads to no block that may be reached. The break
-- names the link.
pub record IsAstray (n : ℕ) (words : List ℕ) (walk : Walk) (seen before : List ℕ) (e : Break) : Type 0 where
  pub some : slice_index words (next_link n walk before) ≢ 0
  pub none : (b : ℕ) → LeadsTo n words (before ++ seen) (next_link n walk before) b → ⊥
  pub here : e ≡ record { offset = next_link n walk before; rule = Link }

-- Behind these blocks comes a node of which a test does not hold. The break is the first such test's.
pub record IsNodeRefused (n : ℕ) (words : List ℕ) (walk : Walk) (seen before : List ℕ) (e : Break) : Type 0 where
  pub block : ℕ
  pub leads : LeadsTo n words (before ++ seen) (next_link n walk before) block
  pub here : checked (node_tests n words walk before block) ≡ Err e

-- the walk breaks behind these blocks
abbrev pub Breaks : ℕ → List ℕ → Walk → List ℕ → List ℕ → Break → Type 0
Breaks n words walk seen before e = IsAstray n words walk seen before e ⊎ IsNodeRefused n words walk seen before e

-- What a walk comes to: all blocks of the chain, whose last link is 0, or its first break.
abbrev pub Walks : ℕ → List ℕ → Walk → List ℕ → Result (List ℕ) Break → Type 0
Walks n words walk seen (Ok blocks) = Reaches n words walk seen blocks × (slice_index words (next_link n walk blocks) ≡ 0)
Walks n words walk seen (Err e) = (before : List ℕ) × Reaches n words walk seen before × Breaks n words walk seen before e

-- different blocks of the region, none of the bucket table
pub record AreDistinctBlocks (n : ℕ) (blocks : List ℕ) : Type 0 where
  pub different : (b : ℕ) → times b blocks ≤ 1
  pub within : (b : ℕ) → 0 < times b blocks → (2 ^ (n - 4) ≤ b) × (b < 2 ^ n)

-- of all nodes of the tree those of the bucket table and of these blocks are marked
pub record AreMarks (n : ℕ) (blocks : List ℕ) (marks : List Bool) : Type 0 where
  pub as_long : length marks ≡ 2 * 2 ^ n
  pub marked : IsMarked (taken_by n blocks) marks
  pub apart : AreDistinctBlocks n blocks

-- the marks are those of some blocks
abbrev pub AreSomeMarks : ℕ → List Bool → Type 0
AreSomeMarks n marks = (blocks : List ℕ) × AreMarks n blocks marks

-- the walk is along one of the chains of a region
abbrev pub IsWalk : ℕ → Walk → Type 0
IsWalk n along.Queue = Unit {0}
IsWalk n along.Set = Unit {0}
IsWalk n (along.OldBucket i) = i < buckets n
IsWalk n (along.Bucket i) = i < buckets n

-- what is known of a walk that reached these blocks
pub record IsReached (n : ℕ) (walk : Walk) (blocks : List ℕ) (reached : Reached) : Type 0 where
  pub link : reached.link ≡ next_link n walk blocks
  pub last : reached.last ≡ newest n blocks
  pub count : reached.count ≡ length blocks

-- the walk reached these blocks, which is known of it, and they are marked
pub record IsOnWalk (n : ℕ) (words : List ℕ) (walk : Walk) (seen blocks : List ℕ) (reached : Reached) (marks : List Bool) : Type 0 where
  pub reaches : Reaches n words walk seen blocks
  pub known : IsReached n walk blocks reached
  pub marked : AreMarks n (blocks ++ seen) marks

-- what code answers of a link, and how it leaves the marks: the block that the link leads to is marked
pub record FollowsLink (n : ℕ) (words seen : List ℕ) (link node : ℕ) (marks : List Bool) : Type 0 where
  pub block : ℕ
  pub leads : LeadsTo n words seen link block
  pub here : node ≡ block_of n block
  pub marked : AreMarks n (block ∷ seen) marks

-- what code answers at the end of a walk, and how it leaves the marks
pub record HasWalked (n : ℕ) (words : List ℕ) (walk : Walk) (seen : List ℕ) (reached : Reached) (marks : List Bool) : Type 0 where
  pub blocks : List ℕ
  pub walks : Walks n words walk seen (Ok blocks)
  pub known : IsReached n walk blocks reached
  pub marked : AreMarks n (blocks ++ seen) marks
