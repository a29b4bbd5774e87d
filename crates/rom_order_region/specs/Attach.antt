-- A node that may be put into a tree.
use Rattle.std.specs.Prelude.{◌≡◌, ℕ, ◌∷◌, List}
use Rattle.rom_order_region.specs.Tree.{Tree, Leaf, Node, blocks}
use Rattle.rom_order_region.specs.Nodes.{TreeStands, AreNodesApart, node_at, root}

-- A tree, and a single node beside it.
pub record IsAttach (n : ℕ) (words : List ℕ) (top node b k v : ℕ) (t : Tree) : Type 0 where
  pub top_is : top ≡ root n t
  pub stands : TreeStands n words t
  pub node_is : node ≡ node_at n b
  pub single : TreeStands n words (Node b k v Leaf Leaf)
  pub apart : AreNodesApart n (b ∷ blocks t)

-- some such tree and node
pub record MayAttach (n : ℕ) (words : List ℕ) (top node k : ℕ) : Type 0 where
  pub block : ℕ
  pub value : ℕ
  pub tree : Tree
  pub is : IsAttach n words top node block k value tree
