-- A tree without its leftmost node, and two trees that become one.
use Rattle.std.specs.Prelude.{◌≡◌, ℕ, ◌++◌, List}
use Rattle.rom_order_region.specs.Tree.{Tree, Node, blocks, leftmost_of, without_first}
use Rattle.rom_order_region.specs.Nodes.{TreeStands, HoldsEntry, AreNodesApart, BuildsTreeAt, node_at, root}
use Rattle.rom_order_region.specs.declared.tree.remove.First.{First}

-- The leftmost node of a tree still holds its entry, and the others are the tree.
pub record IsLeftmost (n : ℕ) (old new : List ℕ) (b k v : ℕ) (l r : Tree) (first : First) : Type 0 where
  pub node_is : first.node ≡ node_at n (leftmost_of b k v l).block
  pub holds : HoldsEntry n new (leftmost_of b k v l).block (leftmost_of b k v l).key (leftmost_of b k v l).value
  pub becomes : BuildsTreeAt n (blocks (Node b k v l r)) old new (without_first b k v l r) first.rest

-- Two trees apart.
pub record IsPair (n : ℕ) (words : List ℕ) (left right : ℕ) (l r : Tree) : Type 0 where
  pub left_is : left ≡ root n l
  pub right_is : right ≡ root n r
  pub stands_left : TreeStands n words l
  pub stands_right : TreeStands n words r
  pub apart : AreNodesApart n (blocks l ++ blocks r)

-- some such trees
pub record HasPair (n : ℕ) (words : List ℕ) (left right : ℕ) : Type 0 where
  pub on_left : Tree
  pub on_right : Tree
  pub is : IsPair n words left right on_left on_right
