-- A search tree in the words of a region.
use Rattle.std.specs.Prelude.{◌≡◌, ℕ, ◌+◌, ◌-◌, ◌*◌, ◌^◌, ◌<◌, ◌≤◌, max, ◌==◌, if◌then◌else◌, List, length, slice_index}
use Rattle.rom_model.specs.Chains.{times}
use Rattle.rom_order_region.specs.Tree.{Tree, Leaf, Node, blocks, height}

-- Where a node begins. Its block is one of two units, and is named by its number among these.
abbrev pub node_at : ℕ → ℕ → ℕ
node_at n b = 16 + 2 * 2 ^ n + 8 * b

-- where the top node of a tree begins, or 0
abbrev pub root : ℕ → Tree → ℕ
root n Leaf = 0
root n (Node b k v l r) = node_at n b

-- a node's key and its value, and the words that nothing uses
pub record HoldsEntry (n : ℕ) (words : List ℕ) (b key value : ℕ) : Type 0 where
  pub key_is : slice_index words (node_at n b) ≡ key
  pub value_is : slice_index words (node_at n b + 1) ≡ value
  pub sixth : slice_index words (node_at n b + 5) ≡ 0
  pub seventh : slice_index words (node_at n b + 6) ≡ 0
  pub eighth : slice_index words (node_at n b + 7) ≡ 0

-- the links of a node to its subtrees, and its height
pub record HoldsLinks (n : ℕ) (words : List ℕ) (b left right high : ℕ) : Type 0 where
  pub left_is : slice_index words (node_at n b + 2) ≡ left
  pub right_is : slice_index words (node_at n b + 3) ≡ right
  pub high_is : slice_index words (node_at n b + 4) ≡ high

-- The nodes of the tree stand in the words.
abbrev pub TreeStands : ℕ → List ℕ → Tree → Type 0
TreeStands n words Leaf = Unit {0}
TreeStands n words (Node b k v l r) = HoldsEntry n words b k v × HoldsLinks n words b (root n l) (root n r) (max (height l) (height r) + 1) × TreeStands n words l × TreeStands n words r

-- different blocks of two units in a region of order n
pub record AreNodesApart (n : ℕ) (bs : List ℕ) : Type 0 where
  pub different : (b : ℕ) → times b bs ≤ 1
  pub within : (b : ℕ) → 0 < times b bs → b < 2 ^ (n - 1)

-- a word of a node
pub record IsWordOfNode (n b k : ℕ) : Type 0 where
  pub least : node_at n b ≤ k
  pub most : k < node_at n b + 8

-- No word differs but those of these blocks.
pub record ChangesNodes (n : ℕ) (bs old new : List ℕ) : Type 0 where
  pub as_long : length new ≡ length old
  pub others : (k : ℕ) → ((b : ℕ) → 0 < times b bs → IsWordOfNode n b k → ⊥) → slice_index new k ≡ slice_index old k

-- A tree stands in the words, whose top node begins there.
pub record IsTree (n : ℕ) (words : List ℕ) (at : ℕ) (t : Tree) : Type 0 where
  pub at_is : at ≡ root n t
  pub stands : TreeStands n words t
  pub apart : AreNodesApart n (blocks t)

-- some tree
pub record HasTree (n : ℕ) (words : List ℕ) (at : ℕ) : Type 0 where
  pub tree : Tree
  pub is : IsTree n words at tree

-- A node and two trees that can be its subtrees; its own links may be others.
pub record IsFork (n : ℕ) (words : List ℕ) (top left right b k v : ℕ) (l r : Tree) : Type 0 where
  pub top_is : top ≡ node_at n b
  pub left_is : left ≡ root n l
  pub right_is : right ≡ root n r
  pub holds : HoldsEntry n words b k v
  pub stands_left : TreeStands n words l
  pub stands_right : TreeStands n words r
  pub apart : AreNodesApart n (blocks (Node b k v l r))

-- some such node
pub record HasFork (n : ℕ) (words : List ℕ) (top left right : ℕ) : Type 0 where
  pub block : ℕ
  pub key : ℕ
  pub value : ℕ
  pub on_left : Tree
  pub on_right : Tree
  pub is : IsFork n words top left right block key value on_left on_right

-- The tree stands in the new words, and of the old ones no word differs but those of these blocks.
pub record BuildsTree (n : ℕ) (bs old new : List ℕ) (t : Tree) : Type 0 where
  pub stands : TreeStands n new t
  pub others : ChangesNodes n bs old new

-- the height of the tree whose top node begins there
abbrev pub level_at : List ℕ → ℕ → ℕ
level_at words at = if at == 0 then 0 else slice_index words (at + 4)

-- The same, and the tree's top node begins there.
pub record BuildsTreeAt (n : ℕ) (bs old new : List ℕ) (t : Tree) (at : ℕ) : Type 0 where
  pub at_is : at ≡ root n t
  pub becomes : BuildsTree n bs old new t
