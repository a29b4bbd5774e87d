-- The blocks of a tree, by how often each stands in it.
use Rattle.std.proofs.Common.{◌≡◌, ℕ, ◌+◌, [], ◌∷◌, ◌++◌, arith}
use Rattle.std.specs.Prelude.{nat_lt, if◌then◌else◌}
use Rattle.rom_model.specs.Chains.{times}
use Rattle.rom_model.proofs.Times.{times-append}
use Rattle.rom_order_region.specs.Tree.{Tree, Leaf, Node, blocks, height, from_left_middle, from_left, from_right_middle, from_right, balanced, attached, leftmost_of, without_first, merged}
use Rattle.rom_order_region.proofs.Choice.{of_choice}

-- how often a block stands in a tree
abbrev pub count : ℕ → Tree → ℕ
count a t = times a (blocks t)

module _ (a b k v : ℕ) where
  pub count-node : (l r : Tree) → count a (Node b k v l r) ≡ times a (b ∷ []) + (count a l + count a r)
  count-node l r = omega (arith, times-append a (b ∷ []) (blocks l ++ blocks r), times-append a (blocks l) (blocks r))

module _ (a b k v : ℕ) where
  count-left_middle : (c j u : ℕ) (x y r : Tree) → count a (from_left_middle b k v c j u x y r) ≡ times a (b ∷ []) + (count a (Node c j u x y) + count a r)
  count-left_middle c j u x Leaf r = count-node a b k v (Node c j u x Leaf) r
  count-left_middle c j u x (Node d i t y z) r =
      omega (arith, count-node a d i t (Node c j u x y) (Node b k v z r), count-node a c j u x y, count-node a b k v z r, count-node a c j u x (Node d i t y z), count-node a d i t y z)

  count-left : (l r : Tree) → count a (from_left b k v l r) ≡ times a (b ∷ []) + (count a l + count a r)
  count-left Leaf r = count-node a b k v Leaf r
  count-left (Node c j u x y) r = of_choice (λ t. count a t ≡ times a (b ∷ []) + (count a (Node c j u x y) + count a r)) (nat_lt (height x) (height y)) (from_left_middle b k v c j u x y r) (Node c j u x (Node b k v y r))
      (count-left_middle c j u x y r) (omega (arith, count-node a c j u x (Node b k v y r), count-node a b k v y r, count-node a c j u x y))

  count-right_middle : (l : Tree) (c j u : ℕ) (x y : Tree) → count a (from_right_middle b k v l c j u x y) ≡ times a (b ∷ []) + (count a l + count a (Node c j u x y))
  count-right_middle l c j u Leaf y = count-node a b k v l (Node c j u Leaf y)
  count-right_middle l c j u (Node d i t x z) y =
      omega (arith, count-node a d i t (Node b k v l x) (Node c j u z y), count-node a b k v l x, count-node a c j u z y, count-node a c j u (Node d i t x z) y, count-node a d i t x z)

  count-right : (l r : Tree) → count a (from_right b k v l r) ≡ times a (b ∷ []) + (count a l + count a r)
  count-right l Leaf = count-node a b k v l Leaf
  count-right l (Node c j u x y) = of_choice (λ t. count a t ≡ times a (b ∷ []) + (count a l + count a (Node c j u x y))) (nat_lt (height y) (height x)) (from_right_middle b k v l c j u x y) (Node c j u (Node b k v l x) y)
      (count-right_middle l c j u x y) (omega (arith, count-node a c j u (Node b k v l x) y, count-node a b k v l x, count-node a c j u x y))

  pub count-balanced : (l r : Tree) → count a (balanced b k v l r) ≡ times a (b ∷ []) + (count a l + count a r)
  count-balanced l r = of_choice (λ t. count a t ≡ times a (b ∷ []) + (count a l + count a r)) (nat_lt (height r + 1) (height l)) (from_left b k v l r) (if nat_lt (height l + 1) (height r) then from_right b k v l r else Node b k v l r)
      (count-left l r)
      (of_choice (λ t. count a t ≡ times a (b ∷ []) + (count a l + count a r)) (nat_lt (height l + 1) (height r)) (from_right b k v l r) (Node b k v l r) (count-right l r) (count-node a b k v l r))

-- one block more
pub count-attached : (a b k v : ℕ) (t : Tree) → count a (attached b k v t) ≡ times a (b ∷ []) + count a t
count-attached a b k v Leaf = count-node a b k v Leaf Leaf
count-attached a b k v (Node c j u l r) = of_choice (λ t. count a t ≡ times a (b ∷ []) + count a (Node c j u l r)) (nat_lt k j) (balanced c j u (attached b k v l) r) (balanced c j u l (attached b k v r))
    (omega (arith, count-balanced a c j u (attached b k v l) r, count-attached a b k v l, count-node a c j u l r))
    (omega (arith, count-balanced a c j u l (attached b k v r), count-attached a b k v r, count-node a c j u l r))

-- the first block, and the others
pub count-first : (a b k v : ℕ) (l r : Tree) → times a ((leftmost_of b k v l).block ∷ []) + count a (without_first b k v l r) ≡ count a (Node b k v l r)
count-first a b k v Leaf r = omega (arith, count-node a b k v Leaf r)
count-first a b k v (Node c j u x y) r = omega (arith, count-first a c j u x y, count-balanced a b k v (without_first c j u x y) r, count-node a b k v (Node c j u x y) r)

pub count-merged : (a : ℕ) (l r : Tree) → count a (merged l r) ≡ count a l + count a r
count-merged a l Leaf = omega arith
count-merged a l (Node c j u x y) =
    let f = leftmost_of c j u x in
    omega (arith, count-first a c j u x y, count-balanced a f.block f.key f.value l (without_first c j u x y))
