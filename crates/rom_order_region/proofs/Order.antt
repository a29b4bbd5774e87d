-- Turning nodes changes neither the entries nor the blocks.
use Rattle.std.proofs.Common.{◌≡◌, ℕ, ◌+◌, ◌∷◌, ◌++◌, refl, append_assoc}
use Rattle.std.specs.Prelude.{nat_lt, if◌then◌else◌}
use Rattle.rom_order_region.specs.Tree.{Tree, Leaf, Node, entries, height, from_left_middle, from_left, from_right_middle, from_right, balanced}
use Rattle.rom_order_region.proofs.Choice.{of_choice}

module _ (b k v : ℕ) where
  entries-left_middle : (c j u : ℕ) (x y r : Tree) → entries (from_left_middle b k v c j u x y r) ≡ entries (Node c j u x y) ++ (k, v) ∷ entries r
  entries-left_middle c j u x Leaf r = refl
  entries-left_middle c j u x (Node d i t y z) r = simp append_assoc

  entries-left : (l r : Tree) → entries (from_left b k v l r) ≡ entries l ++ (k, v) ∷ entries r
  entries-left Leaf r = refl
  entries-left (Node c j u x y) r = of_choice (λ t. entries t ≡ entries (Node c j u x y) ++ (k, v) ∷ entries r) (nat_lt (height x) (height y)) (from_left_middle b k v c j u x y r) (Node c j u x (Node b k v y r))
      (entries-left_middle c j u x y r) (simp append_assoc)

  entries-right_middle : (l : Tree) (c j u : ℕ) (x y : Tree) → entries (from_right_middle b k v l c j u x y) ≡ entries l ++ (k, v) ∷ entries (Node c j u x y)
  entries-right_middle l c j u Leaf y = refl
  entries-right_middle l c j u (Node d i t x z) y = simp append_assoc

  entries-right : (l r : Tree) → entries (from_right b k v l r) ≡ entries l ++ (k, v) ∷ entries r
  entries-right l Leaf = refl
  entries-right l (Node c j u x y) = of_choice (λ t. entries t ≡ entries l ++ (k, v) ∷ entries (Node c j u x y)) (nat_lt (height y) (height x)) (from_right_middle b k v l c j u x y) (Node c j u (Node b k v l x) y)
      (entries-right_middle l c j u x y) (simp append_assoc)

  pub entries-balanced : (l r : Tree) → entries (balanced b k v l r) ≡ entries l ++ (k, v) ∷ entries r
  entries-balanced l r = of_choice (λ t. entries t ≡ entries l ++ (k, v) ∷ entries r) (nat_lt (height r + 1) (height l)) (from_left b k v l r) (if nat_lt (height l + 1) (height r) then from_right b k v l r else Node b k v l r)
      (entries-left l r)
      (of_choice (λ t. entries t ≡ entries l ++ (k, v) ∷ entries r) (nat_lt (height l + 1) (height r)) (from_right b k v l r) (Node b k v l r) (entries-right l r) refl)
