-- Search trees whose nodes stand in blocks, and how an ordered index changes them.
use Rattle.std.specs.Prelude.{ℕ, ◌+◌, ◌≤◌, max, List, [], ◌∷◌, ◌++◌, nat_lt, if◌then◌else◌}

-- A tree: empty, or a node with its block, its key, its value, and its left and right subtree.
pub data Tree : Type 0 where
  Leaf : Tree
  Node : (block key value : ℕ) (left right : Tree) → Tree

-- the keys with their values, from left to right
abbrev pub entries : Tree → List (ℕ × ℕ)
entries Leaf = []
entries (Node b k v l r) = entries l ++ (k, v) ∷ entries r

-- the blocks of the nodes
abbrev pub blocks : Tree → List ℕ
blocks Leaf = []
blocks (Node b k v l r) = b ∷ (blocks l ++ blocks r)

-- how many nodes stand on the longest way down
abbrev pub height : Tree → ℕ
height Leaf = 0
height (Node b k v l r) = max (height l) (height r) + 1

-- The heights of the two subtrees of each node differ by at most one.
abbrev pub IsBalanced : Tree → Type 0
IsBalanced Leaf = Unit {0}
IsBalanced (Node b k v l r) = (height l ≤ height r + 1) × (height r ≤ height l + 1) × IsBalanced l × IsBalanced r

-- A node with the subtree l, whose right subtree is the node in the middle: that one comes to the top.
abbrev pub from_left_middle : ℕ → ℕ → ℕ → ℕ → ℕ → ℕ → Tree → Tree → Tree → Tree
from_left_middle b k v c j u x Leaf r = Node b k v (Node c j u x Leaf) r
from_left_middle b k v c j u x (Node d i t y z) r = Node d i t (Node c j u x y) (Node b k v z r)

-- A node whose left subtree is too high: it goes down to the right.
abbrev pub from_left : ℕ → ℕ → ℕ → Tree → Tree → Tree
from_left b k v Leaf r = Node b k v Leaf r
from_left b k v (Node c j u x y) r = if nat_lt (height x) (height y) then from_left_middle b k v c j u x y r else Node c j u x (Node b k v y r)

-- A node with the left subtree l, whose right subtree has the node in the middle as its left one: that one
-- comes to the top.
abbrev pub from_right_middle : ℕ → ℕ → ℕ → Tree → ℕ → ℕ → ℕ → Tree → Tree → Tree
from_right_middle b k v l c j u Leaf y = Node b k v l (Node c j u Leaf y)
from_right_middle b k v l c j u (Node d i t x z) y = Node d i t (Node b k v l x) (Node c j u z y)

-- a node whose right subtree is too high: it goes down to the left
abbrev pub from_right : ℕ → ℕ → ℕ → Tree → Tree → Tree
from_right b k v l Leaf = Node b k v l Leaf
from_right b k v l (Node c j u x y) = if nat_lt (height y) (height x) then from_right_middle b k v l c j u x y else Node c j u (Node b k v l x) y

-- A node over two subtrees whose heights differ by at most two, turned where they differ by two.
abbrev pub balanced : ℕ → ℕ → ℕ → Tree → Tree → Tree
balanced b k v l r =
    if nat_lt (height r + 1) (height l) then from_left b k v l r else
    if nat_lt (height l + 1) (height r) then from_right b k v l r else
    Node b k v l r

-- the tree with one node more, whose key it has not
abbrev pub attached : ℕ → ℕ → ℕ → Tree → Tree
attached b k v Leaf = Node b k v Leaf Leaf
attached b k v (Node c j u l r) = if nat_lt k j then balanced c j u (attached b k v l) r else balanced c j u l (attached b k v r)

-- a node's block, key and value
pub record HeldNode : Type 0 where
  pub block : ℕ
  pub key : ℕ
  pub value : ℕ

-- the leftmost node of a tree whose top is that one, over that left subtree
abbrev pub leftmost_of : ℕ → ℕ → ℕ → Tree → HeldNode
leftmost_of b k v Leaf = record { block = b; key = k; value = v }
leftmost_of b k v (Node c j u x y) = leftmost_of c j u x

-- the tree without its leftmost node
abbrev pub without_first : ℕ → ℕ → ℕ → Tree → Tree → Tree
without_first b k v Leaf r = r
without_first b k v (Node c j u x y) r = balanced b k v (without_first c j u x y) r

-- the two subtrees of a node that goes, as one tree
abbrev pub merged : Tree → Tree → Tree
merged l Leaf = l
merged l (Node c j u x y) = let first = leftmost_of c j u x in balanced first.block first.key first.value l (without_first c j u x y)

-- the tree without the node of a key that it has
abbrev pub detached : ℕ → Tree → Tree
detached k Leaf = Leaf
detached k (Node c j u l r) =
    if nat_lt k j then balanced c j u (detached k l) r else
    if nat_lt j k then balanced c j u l (detached k r) else
    merged l r

-- the block of the node of a key that the tree has
abbrev pub block_at_key : ℕ → Tree → ℕ
block_at_key k Leaf = 0
block_at_key k (Node c j u l r) = if nat_lt k j then block_at_key k l else if nat_lt j k then block_at_key k r else c

-- the tree with another value at a key that it has
abbrev pub revalued : ℕ → ℕ → Tree → Tree
revalued k v Leaf = Leaf
revalued k v (Node c j u l r) =
    if nat_lt k j then Node c j u (revalued k v l) r else
    if nat_lt j k then Node c j u l (revalued k v r) else
    Node c k v l r
