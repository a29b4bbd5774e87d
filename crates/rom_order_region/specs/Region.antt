-- The words of a well-formed region of an ordered index, and the map and the count that they stand for.
use Rattle.std.specs.Prelude.{◌≡◌, ℕ, ◌-◌, ◌^◌, ◌≤◌, Bool, ◌&&◌, nat_lt, nat_le, List, length, slice_index}
use Rattle.std.specs.Ordering.{nat_cmp}
use Rattle.std.specs.FinMap as map
use Rattle.rom_model.specs.History.{LAST_COUNT}
use Rattle.rom_model.specs.Blocks.{AreWords, region_len}
use Rattle.rom_model.specs.Chains.{times}
use Rattle.rom_order_region.specs.Tree.{Tree, entries, blocks, IsBalanced}
use Rattle.rom_order_region.specs.Nodes.{IsTree}

-- the blocks of two units of these numbers
abbrev pub taken_pairs : ℕ → List ℕ → ℕ → Bool
taken_pairs n bs i = nat_le (2 ^ (n - 1)) i && nat_lt 0 (times (i - 2 ^ (n - 1)) bs)

-- how many keys there is room for
abbrev pub room_for : ℕ → ℕ
room_for n = 2 ^ (n - 1)

-- The root words, the tree of nodes, and the tree of the allocator, of which these nodes are taken. The
-- order n is 4 to 16.
pub record IsIndexRegion (n : ℕ) (words : List ℕ) (t : Tree) (s : map.FinMap nat_cmp ℕ) (count : ℕ) : Type 0 where
  pub as_long : length words ≡ region_len n
  pub kind : slice_index words 0 ≡ 3
  pub version : slice_index words 1 ≡ 1
  pub count_is : slice_index words 2 ≡ count
  pub count_fits : count ≤ LAST_COUNT
  pub top : IsTree n words (slice_index words 3) t
  pub balance : IsBalanced t
  pub size : slice_index words 4 ≡ map.len s
  pub zeros : (k : ℕ) → 5 ≤ k → k ≤ 16 → slice_index words k ≡ 0
  pub entries_are : map.entries s ≡ entries t
  pub tree : AreWords n (taken_pairs n (blocks t)) words

-- The region is well-formed, and stands for this map and this count.
abbrev pub IndexContents : ℕ → List ℕ → map.FinMap nat_cmp ℕ → ℕ → Type 0
IndexContents n words s count = (t : Tree) × IsIndexRegion n words t s count

-- The region is well-formed.
pub record IsIndexWellFormed (n : ℕ) (words : List ℕ) : Type 0 where
  pub tree : Tree
  pub state : map.FinMap nat_cmp ℕ
  pub count : ℕ
  pub region : IsIndexRegion n words tree state count
