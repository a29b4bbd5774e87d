-- The two sides of a node, on either of which a subtree may be too high.
use Rattle.std.specs.Prelude.{◌≡◌, ℕ, List}
use Rattle.rom_order_region.specs.declared.tree.turn.Side.{Side}
use Rattle.rom_order_region.specs.declared.tree.turn.Side.TheVariants.{Left, Right}
use Rattle.rom_order_region.specs.Tree.{Tree, Node, blocks, from_left, from_right}
use Rattle.rom_order_region.specs.Nodes.{node_at, root, HoldsEntry, TreeStands, AreNodesApart}

-- a node whose subtree on that side is the first of the two
abbrev pub over : Side → ℕ → ℕ → ℕ → Tree → Tree → Tree
over Left b k v x y = Node b k v x y
over Right b k v x y = Node b k v y x

-- a node whose subtree on that side, the first of the two, is too high: it goes down to the other
abbrev pub turned : Side → ℕ → ℕ → ℕ → Tree → Tree → Tree
turned Left b k v x y = from_left b k v x y
turned Right b k v x y = from_right b k v y x

-- A node and two trees that can be its subtrees, the first on that side; its own links may be others.
pub record IsForkOn (n : ℕ) (words : List ℕ) (side : Side) (top near far b k v : ℕ) (x y : Tree) : Type 0 where
  pub top_is : top ≡ node_at n b
  pub near_is : near ≡ root n x
  pub far_is : far ≡ root n y
  pub holds : HoldsEntry n words b k v
  pub stands_near : TreeStands n words x
  pub stands_far : TreeStands n words y
  pub apart : AreNodesApart n (blocks (over side b k v x y))

-- some such node
pub record HasForkOn (n : ℕ) (words : List ℕ) (side : Side) (top near far : ℕ) : Type 0 where
  pub block : ℕ
  pub key : ℕ
  pub value : ℕ
  pub on_near : Tree
  pub on_far : Tree
  pub is : IsForkOn n words side top near far block key value on_near on_far
