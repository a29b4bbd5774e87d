-- Balance, and how much a change of a tree changes its height.
use Rattle.std.proofs.Common.{◌≡◌, ◌⊎◌, inl, inr, ℕ, ◌+◌, ◌<◌, ◌≤◌, max, refl, arith}
use Rattle.std.specs.Prelude.{nat_lt, if◌then◌else◌}
use Rattle.rom_order_region.specs.Tree.{Tree, Leaf, Node, height, IsBalanced, from_left_middle, from_left, from_right_middle, from_right, balanced, attached, leftmost_of, without_first, merged, detached}
use Rattle.rom_order_region.proofs.Choice.{of_below}

-- what a turned tree is: balanced, and as high as the two subtrees or higher by one
pub record IsTurned (l r t : Tree) : Type 0 where
  pub balance : IsBalanced t
  pub least : max (height l) (height r) ≤ height t
  pub most : height t ≤ max (height l) (height r) + 1
  -- it turns only where the heights differ by two
  pub plain : (height t ≡ max (height l) (height r) + 1) ⊎ ((height l ≡ height r + 2) ⊎ (height r ≡ height l + 2))

module _ (b k v : ℕ) where
  plain_node : (l r : Tree) → IsBalanced l → IsBalanced r → height l ≤ height r + 1 → height r ≤ height l + 1 → IsTurned l r (Node b k v l r)
  plain_node l r p q hl hr = record { balance = (hl, hr, p, q); least = omega arith; most = omega arith; plain = inl refl }

  left_middle : (c j u : ℕ) (x y r : Tree) → IsBalanced (Node c j u x y) → IsBalanced r → height x < height y → height (Node c j u x y) ≡ height r + 2 → IsTurned (Node c j u x y) r (from_left_middle b k v c j u x y r)
  left_middle c j u x Leaf r p q deep high = absurd (omega arith)
  left_middle c j u x (Node d i t y z) r p q deep high = record {
    balance = (omega (arith, p.0, p.1, p.3.0, p.3.1), omega (arith, p.0, p.1, p.3.0, p.3.1), (omega (arith, p.0, p.1, p.3.0, p.3.1), omega (arith, p.0, p.1, p.3.0, p.3.1), p.2, p.3.2), (omega (arith, p.0, p.1, p.3.0, p.3.1), omega (arith, p.0, p.1, p.3.0, p.3.1), p.3.3, q));
    least = omega (arith, p.0, p.1, p.3.0, p.3.1);
    most = omega (arith, p.0, p.1, p.3.0, p.3.1);
    plain = inr (inl high);
  }

  turned_left : (l r : Tree) → IsBalanced l → IsBalanced r → height l ≡ height r + 2 → IsTurned l r (from_left b k v l r)
  turned_left Leaf r p q high = absurd (omega (arith, high))
  turned_left (Node c j u x y) r p q high = of_below (λ t. IsTurned (Node c j u x y) r t) (height x) (height y) (from_left_middle b k v c j u x y r) (Node c j u x (Node b k v y r))
      (λ deep. left_middle c j u x y r p q deep high)
      (λ shallow. record {
        balance = (omega (arith, p.0, p.1), omega (arith, p.0, p.1), p.2, (omega (arith, p.0, p.1), omega (arith, p.0, p.1), p.3, q));
        least = omega (arith, p.0, p.1);
        most = omega (arith, p.0, p.1);
        plain = inr (inl high);
      })

  right_middle : (l : Tree) (c j u : ℕ) (x y : Tree) → IsBalanced l → IsBalanced (Node c j u x y) → height y < height x → height (Node c j u x y) ≡ height l + 2 → IsTurned l (Node c j u x y) (from_right_middle b k v l c j u x y)
  right_middle l c j u Leaf y p q deep high = absurd (omega arith)
  right_middle l c j u (Node d i t x z) y p q deep high = record {
    balance = (omega (arith, q.0, q.1, q.2.0, q.2.1), omega (arith, q.0, q.1, q.2.0, q.2.1), (omega (arith, q.0, q.1, q.2.0, q.2.1), omega (arith, q.0, q.1, q.2.0, q.2.1), p, q.2.2), (omega (arith, q.0, q.1, q.2.0, q.2.1), omega (arith, q.0, q.1, q.2.0, q.2.1), q.2.3, q.3));
    least = omega (arith, q.0, q.1, q.2.0, q.2.1);
    most = omega (arith, q.0, q.1, q.2.0, q.2.1);
    plain = inr (inr high);
  }

  turned_right : (l r : Tree) → IsBalanced l → IsBalanced r → height r ≡ height l + 2 → IsTurned l r (from_right b k v l r)
  turned_right l Leaf p q high = absurd (omega (arith, high))
  turned_right l (Node c j u x y) p q high = of_below (λ t. IsTurned l (Node c j u x y) t) (height y) (height x) (from_right_middle b k v l c j u x y) (Node c j u (Node b k v l x) y)
      (λ deep. right_middle l c j u x y p q deep high)
      (λ shallow. record {
        balance = (omega (arith, q.0, q.1), omega (arith, q.0, q.1), (omega (arith, q.0, q.1), omega (arith, q.0, q.1), p, q.2), q.3);
        least = omega (arith, q.0, q.1);
        most = omega (arith, q.0, q.1);
        plain = inr (inr high);
      })

  pub turned : (l r : Tree) → IsBalanced l → IsBalanced r → height l ≤ height r + 2 → height r ≤ height l + 2 → IsTurned l r (balanced b k v l r)
  turned l r p q hl hr = of_below (λ t. IsTurned l r t) (height r + 1) (height l) (from_left b k v l r) (if nat_lt (height l + 1) (height r) then from_right b k v l r else Node b k v l r)
      (λ left. turned_left l r p q (omega arith))
      (λ not_left. of_below (λ t. IsTurned l r t) (height l + 1) (height r) (from_right b k v l r) (Node b k v l r)
      (λ right. turned_right l r p q (omega arith))
      (λ not_right. plain_node l r p q (omega arith) (omega arith)))

-- a balanced tree that is as high as another one or higher by one
pub record IsGrown (old new : Tree) : Type 0 where
  pub balance : IsBalanced new
  pub least : height old ≤ height new
  pub most : height new ≤ height old + 1

-- a balanced tree that is as high as another one or lower by one
pub record IsShrunk (old new : Tree) : Type 0 where
  pub balance : IsBalanced new
  pub most : height new ≤ height old
  pub least : height old ≤ height new + 1

module _ (c j u : ℕ) where
  -- one subtree grew
  pub grown_left : (l r m : Tree) → IsBalanced (Node c j u l r) → IsGrown l m → IsGrown (Node c j u l r) (balanced c j u m r)
  grown_left l r m p g =
      let t = turned c j u m r g.balance p.3 (omega (arith, p.0, p.1, g.least, g.most)) (omega (arith, p.0, p.1, g.least, g.most)) in
      record {
        balance = t.balance;
        least = omega (arith, p.0, p.1, g.least, g.most, t.least, t.plain);
        most = omega (arith, p.0, p.1, g.least, g.most, t.most);
      }

  pub grown_right : (l r m : Tree) → IsBalanced (Node c j u l r) → IsGrown r m → IsGrown (Node c j u l r) (balanced c j u l m)
  grown_right l r m p g =
      let t = turned c j u l m p.2 g.balance (omega (arith, p.0, p.1, g.least, g.most)) (omega (arith, p.0, p.1, g.least, g.most)) in
      record {
        balance = t.balance;
        least = omega (arith, p.0, p.1, g.least, g.most, t.least, t.plain);
        most = omega (arith, p.0, p.1, g.least, g.most, t.most);
      }

  -- one subtree shrank
  pub shrunk_left : (b k v : ℕ) (l r m : Tree) → IsBalanced (Node b k v l r) → IsShrunk l m → IsShrunk (Node b k v l r) (balanced c j u m r)
  shrunk_left b k v l r m p g =
      let t = turned c j u m r g.balance p.3 (omega (arith, p.0, p.1, g.least, g.most)) (omega (arith, p.0, p.1, g.least, g.most)) in
      record {
        balance = t.balance;
        most = omega (arith, p.0, p.1, g.least, g.most, t.most);
        least = omega (arith, p.0, p.1, g.least, g.most, t.least, t.plain);
      }

  pub shrunk_right : (b k v : ℕ) (l r m : Tree) → IsBalanced (Node b k v l r) → IsShrunk r m → IsShrunk (Node b k v l r) (balanced c j u l m)
  shrunk_right b k v l r m p g =
      let t = turned c j u l m p.2 g.balance (omega (arith, p.0, p.1, g.least, g.most)) (omega (arith, p.0, p.1, g.least, g.most)) in
      record {
        balance = t.balance;
        most = omega (arith, p.0, p.1, g.least, g.most, t.most);
        least = omega (arith, p.0, p.1, g.least, g.most, t.least, t.plain);
      }

pub grown_attached : (b k v : ℕ) (t : Tree) → IsBalanced t → IsGrown t (attached b k v t)
grown_attached b k v Leaf p = record { balance = (omega arith, omega arith, tt, tt); least = omega arith; most = omega arith }
grown_attached b k v (Node c j u l r) p = of_below (λ t. IsGrown (Node c j u l r) t) k j (balanced c j u (attached b k v l) r) (balanced c j u l (attached b k v r))
    (λ _. grown_left c j u l r (attached b k v l) p (grown_attached b k v l p.2))
    (λ _. grown_right c j u l r (attached b k v r) p (grown_attached b k v r p.3))

pub shrunk_first : (b k v : ℕ) (l r : Tree) → IsBalanced (Node b k v l r) → IsShrunk (Node b k v l r) (without_first b k v l r)
shrunk_first b k v Leaf r p = record { balance = p.3; most = omega (arith, p.0, p.1); least = omega (arith, p.0, p.1) }
shrunk_first b k v (Node c j u x y) r p = shrunk_left b k v b k v (Node c j u x y) r (without_first c j u x y) p (shrunk_first c j u x y p.2)

pub shrunk_merged : (b k v : ℕ) (l r : Tree) → IsBalanced (Node b k v l r) → IsShrunk (Node b k v l r) (merged l r)
shrunk_merged b k v l Leaf p = record { balance = p.2; most = omega (arith, p.0, p.1); least = omega (arith, p.0, p.1) }
shrunk_merged b k v l (Node c j u x y) p =
    let f = leftmost_of c j u x in
    shrunk_right f.block f.key f.value b k v l (Node c j u x y) (without_first c j u x y) p (shrunk_first c j u x y p.3)

pub shrunk_detached : (k : ℕ) (t : Tree) → IsBalanced t → IsShrunk t (detached k t)
shrunk_detached k Leaf p = record { balance = tt; most = omega arith; least = omega arith }
shrunk_detached k (Node c j u l r) p = of_below (λ t. IsShrunk (Node c j u l r) t) k j (balanced c j u (detached k l) r) (if nat_lt j k then balanced c j u l (detached k r) else merged l r)
    (λ _. shrunk_left c j u c j u l r (detached k l) p (shrunk_detached k l p.2))
    (λ _. of_below (λ t. IsShrunk (Node c j u l r) t) j k (balanced c j u l (detached k r)) (merged l r)
    (λ _. shrunk_right c j u c j u l r (detached k r) p (shrunk_detached k r p.3))
    (λ _. shrunk_merged c j u l r p))
