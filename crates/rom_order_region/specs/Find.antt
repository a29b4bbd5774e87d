-- What a walk down the tree finds.
use Rattle.std.specs.Prelude.{◌≡◌, ◌≢◌, ℕ, ◌+◌, ◌<◌, List, Some, None, slice_index}
use Rattle.std.specs.Ordering.{nat_cmp}
use Rattle.std.specs.FinMap.{find}
use Rattle.rom_model.specs.Chains.{times}
use Rattle.rom_order_region.specs.Tree.{Tree, entries, blocks, block_at_key}
use Rattle.rom_order_region.specs.Nodes.{node_at, IsTree}
use Rattle.rom_order_region.specs.Keys.{EntriesRise}

-- The node of a key of the tree begins there; 0 where the tree has not got the key.
pub record IsFound (n : ℕ) (words : List ℕ) (t : Tree) (key node : ℕ) : Type 0 where
  pub none : node ≡ 0 → find nat_cmp key (entries t) ≡ None
  pub here : node ≢ 0 → node ≡ node_at n (block_at_key key t)
  pub among : node ≢ 0 → 0 < times (block_at_key key t) (blocks t)
  pub some : node ≢ 0 → find nat_cmp key (entries t) ≡ Some (slice_index words (node + 1))

-- A tree whose keys rise stands in the words, and its top node begins there.
pub record HasOrdered (n : ℕ) (words : List ℕ) (at : ℕ) : Type 0 where
  pub tree : Tree
  pub is : IsTree n words at tree
  pub rises : EntriesRise (entries tree)
