-- Another value at a key.
use Rattle.std.proofs.Common.{◌≡◌, ◌≢◌, inl, inr, ℕ, ◌+◌, ◌<◌, ◌≤◌, max, List, [], ◌∷◌, refl, sym, ◌∙◌, ap, arith}
use Rattle.std.specs.Prelude.{slice_index, nat_lt, if◌then◌else◌, Some}
use Rattle.std.specs.Ordering.{nat_cmp}
use Rattle.std.specs.FinMap.{find}
use Rattle.std.proofs.lemmas.Bool.{cases_eq, cases_lt}
use Rattle.rom_model.specs.Chains.{times}
use Rattle.rom_model.proofs.Times.{times_here}
use Rattle.rom_order_region.specs.Tree.{Tree, Leaf, Node, entries, blocks, height, IsBalanced, balanced, merged, detached, block_at_key, revalued}
use Rattle.rom_order_region.specs.Nodes.{node_at, root, TreeStands, AreNodesApart, IsWordOfNode}
use Rattle.rom_order_region.specs.Keys.{EntriesRise}
use Rattle.rom_order_region.proofs.Choice.{of_below}
use Rattle.rom_order_region.proofs.Members.{count, count-node, count-balanced, count-merged}
use Rattle.rom_order_region.proofs.Frame.{stands_same, entry_same, links_same, one_node, apart_part, count_top}
use Rattle.rom_order_region.proofs.Sorted.{parts}
use Rattle.rom_order_region.proofs.Placed.{find_left, find_right, not_none, count_three}

pub of_three : {A : Type 0} (P : A → Type 0) (k j : ℕ) (x y z : A) → (k < j → P x) → (j < k → P y) → (k ≡ j → P z) → P (if nat_lt k j then x else if nat_lt j k then y else z)
of_three P k j x y z p q r = of_below P k j x (if nat_lt j k then y else z) p (λ ge. of_below P j k y z q (λ le. r (omega arith)))

pub height-revalued : (k v : ℕ) (t : Tree) → height (revalued k v t) ≡ height t
height-revalued k v Leaf = refl
height-revalued k v (Node c j u l r) = of_three (λ t. height t ≡ height (Node c j u l r)) k j (Node c j u (revalued k v l) r) (Node c j u l (revalued k v r)) (Node c k v l r)
    (λ _. omega (arith, height-revalued k v l)) (λ _. omega (arith, height-revalued k v r)) (λ _. refl)

pub balance-revalued : (k v : ℕ) (t : Tree) → IsBalanced t → IsBalanced (revalued k v t)
balance-revalued k v Leaf p = tt
balance-revalued k v (Node c j u l r) p = of_three IsBalanced k j (Node c j u (revalued k v l) r) (Node c j u l (revalued k v r)) (Node c k v l r)
    (λ _. (omega (arith, p.0, p.1, height-revalued k v l), omega (arith, p.0, p.1, height-revalued k v l), balance-revalued k v l p.2, p.3))
    (λ _. (omega (arith, p.0, p.1, height-revalued k v r), omega (arith, p.0, p.1, height-revalued k v r), p.2, balance-revalued k v r p.3))
    (λ _. p)

pub root-revalued : (n k v : ℕ) (t : Tree) → root n (revalued k v t) ≡ root n t
root-revalued n k v Leaf = refl
root-revalued n k v (Node c j u l r) = of_three (λ t. root n t ≡ node_at n c) k j (Node c j u (revalued k v l) r) (Node c j u l (revalued k v r)) (Node c k v l r) (λ _. refl) (λ _. refl) (λ _. refl)

block_three : (P : ℕ → Type 0) (k j : ℕ) (x y z : ℕ) → P (if nat_lt k j then x else if nat_lt j k then y else z) → (k < j → P x) × ((j < k → P y) × (k ≡ j → P z))
block_three P k j x y z p = (
  (λ lt. of_below (λ a. P a → P x) k j x (if nat_lt j k then y else z) (λ _ h. h) (λ ge. absurd (omega arith)) p),
  (
    (λ gt. of_below (λ a. P a → P y) k j x (if nat_lt j k then y else z) (λ lt. absurd (omega arith)) (λ _. of_below (λ a. P a → P y) j k y z (λ _ h. h) (λ le. absurd (omega arith))) p),
    (λ e. of_below (λ a. P a → P z) k j x (if nat_lt j k then y else z) (λ lt. absurd (omega arith)) (λ _. of_below (λ a. P a → P z) j k y z (λ lt. absurd (omega arith)) (λ _ h. h)) p),
  ),
)

-- a key that is there has its node among the tree's
pub present : (k u : ℕ) (t : Tree) → EntriesRise (entries t) → find nat_cmp k (entries t) ≡ Some u → 0 < count (block_at_key k t) t
present k u Leaf rises found = absurd (not_none u (sym found))
present k u (Node c j w l r) rises found =
    let p = parts (entries l) (j, w) (entries r) rises in
    of_three (λ a. 0 < count a (Node c j w l r)) k j (block_at_key k l) (block_at_key k r) c
    (λ lt. omega (arith, present k u l p.front (sym (find_left k j w (entries l) (entries r) p lt) ∙ found), count-node (block_at_key k l) c j w l r))
    (λ gt. omega (arith, present k u r p.back (sym (find_right k j w (entries l) (entries r) p gt) ∙ found), count-node (block_at_key k r) c j w l r))
    (λ _. count_top c j w l r)

-- the value of the node of a key was stored
module _ {n : ℕ} (w w' : List ℕ) (v : ℕ) where
  pub revalue : (k x b : ℕ) (t : Tree) → b ≡ block_at_key k t → EntriesRise (entries t) → find nat_cmp k (entries t) ≡ Some x → AreNodesApart n (blocks t) → TreeStands n w t
      → ((a : ℕ) → a ≢ node_at n b + 1 → slice_index w' a ≡ slice_index w a) → slice_index w' (node_at n b + 1) ≡ v → TreeStands n w' (revalued k v t)
  revalue k x b Leaf b_is rises found apart stands same new = tt
  revalue k x b (Node c j u l r) b_is rises found apart stands same new =
      let p = parts (entries l) (j, u) (entries r) rises in
      let where_b = block_three (λ a. b ≡ a) k j (block_at_key k l) (block_at_key k r) c b_is in
      let once : (q : ℕ) → times q (c ∷ []) + (count q l + count q r) ≤ 1 = λ q. omega (arith, count-node q c j u l r, apart.different q) in
      let away : (q a : ℕ) → (q ≡ b → ⊥) → IsWordOfNode n q a → slice_index w' a ≡ slice_index w a = λ q a ne inside. same a (λ e. ne (one_node n q b a inside record { least = omega (arith, e); most = omega (arith, e) })) in
      of_three (λ t. TreeStands n w' t) k j (Node c j u (revalued k v l) r) (Node c j u l (revalued k v r)) (Node c k v l r)
      (λ lt.
      let bl = where_b.0 lt in
      let found_l = sym (find_left k j u (entries l) (entries r) p lt) ∙ found in
      let inside : 0 < count b l = omega (arith, present k x l p.front found_l, ap (λ a. count a l) bl) in
      let not_top : c ≡ b → ⊥ = λ e. absurd (omega (arith, once b, ap (λ a. times b (a ∷ [])) e, times_here b [], inside)) in
      let links = links_same c (λ a at. away c a not_top at) (root n l) (root n r) (max (height l) (height r) + 1) stands.1 in (
        entry_same c (λ a at. away c a not_top at) j u stands.0,
        record { left_is = links.left_is ∙ sym (root-revalued n k v l); right_is = links.right_is; high_is = links.high_is ∙ ap (λ h. max h (height r) + 1) (sym (height-revalued k v l)) },
        revalue k x b l bl p.front found_l (apart_part (blocks (Node c j u l r)) (blocks l) (λ q. omega (arith, count-node q c j u l r)) apart) stands.2 same new,
        stands_same w w' r (λ q a more at. away q a (λ e. absurd (omega (arith, once b, inside, more, ap (λ y. count y r) e))) at) stands.3,
      ))
      (λ gt.
      let br = where_b.1.0 gt in
      let found_r = sym (find_right k j u (entries l) (entries r) p gt) ∙ found in
      let inside : 0 < count b r = omega (arith, present k x r p.back found_r, ap (λ a. count a r) br) in
      let not_top : c ≡ b → ⊥ = λ e. absurd (omega (arith, once b, ap (λ a. times b (a ∷ [])) e, times_here b [], inside)) in
      let links = links_same c (λ a at. away c a not_top at) (root n l) (root n r) (max (height l) (height r) + 1) stands.1 in (
        entry_same c (λ a at. away c a not_top at) j u stands.0,
        record { left_is = links.left_is; right_is = links.right_is ∙ sym (root-revalued n k v r); high_is = links.high_is ∙ ap (λ h. max (height l) h + 1) (sym (height-revalued k v r)) },
        stands_same w w' l (λ q a more at. away q a (λ e. absurd (omega (arith, once b, inside, more, ap (λ y. count y l) e))) at) stands.2,
        revalue k x b r br p.back found_r (apart_part (blocks (Node c j u l r)) (blocks r) (λ q. omega (arith, count-node q c j u l r)) apart) stands.3 same new,
      ))
      (λ e.
      let bc = where_b.1.1 e in
      let other : (a : ℕ) → (a ≡ node_at n c + 1 → ⊥) → slice_index w' a ≡ slice_index w a = λ a ne. same a (λ at. ne (at ∙ ap (λ y. node_at n y + 1) bc)) in (
        record {
          key_is = other (node_at n c) (λ at. absurd (omega (arith, at))) ∙ stands.0.key_is ∙ sym e;
          value_is = ap (λ y. slice_index w' (node_at n y + 1)) (sym bc) ∙ new;
          sixth = other (node_at n c + 5) (λ at. absurd (omega (arith, at))) ∙ stands.0.sixth;
          seventh = other (node_at n c + 6) (λ at. absurd (omega (arith, at))) ∙ stands.0.seventh;
          eighth = other (node_at n c + 7) (λ at. absurd (omega (arith, at))) ∙ stands.0.eighth;
        },
        record {
          left_is = other (node_at n c + 2) (λ at. absurd (omega (arith, at))) ∙ stands.1.left_is;
          right_is = other (node_at n c + 3) (λ at. absurd (omega (arith, at))) ∙ stands.1.right_is;
          high_is = other (node_at n c + 4) (λ at. absurd (omega (arith, at))) ∙ stands.1.high_is;
        },
        stands_same w w' l (λ q a more at. away q a (λ same_b. absurd (omega (arith, once c, times_here c [], more, ap (λ y. count y l) (same_b ∙ bc)))) at) stands.2,
        stands_same w w' r (λ q a more at. away q a (λ same_b. absurd (omega (arith, once c, times_here c [], more, ap (λ y. count y r) (same_b ∙ bc)))) at) stands.3,
      ))

-- the node of the key goes, and the others stay
pub count-detached : (a k x : ℕ) (t : Tree) → EntriesRise (entries t) → find nat_cmp k (entries t) ≡ Some x → count a t ≡ count a (detached k t) + times a (block_at_key k t ∷ [])
count-detached a k x Leaf rises found = absurd (not_none x (sym found))
count-detached a k x (Node c j u l r) rises found =
    let p = parts (entries l) (j, u) (entries r) rises in
    elim (cases_lt k j) [
      | inl lt ↦
          let bl : block_at_key k (Node c j u l r) ≡ block_at_key k l = of_three (λ b. b ≡ block_at_key k l) k j (block_at_key k l) (block_at_key k r) c (λ _. refl) (λ gt. absurd (omega arith)) (λ e. absurd (omega arith)) in
          let same = count_three a k j (balanced c j u (detached k l) r) (balanced c j u l (detached k r)) (merged l r) (times a (c ∷ []) + (count a (detached k l) + count a r)) (λ _. count-balanced a c j u (detached k l) r) (λ gt. absurd (omega arith)) (λ e. absurd (omega arith)) in
          omega (arith, same, count-node a c j u l r, ap (λ b. times a (b ∷ [])) bl, count-detached a k x l p.front (sym (find_left k j u (entries l) (entries r) p lt) ∙ found))
      | inr ge ↦ elim (cases_eq k j) [
        | inl e ↦
            let bc : block_at_key k (Node c j u l r) ≡ c = of_three (λ b. b ≡ c) k j (block_at_key k l) (block_at_key k r) c (λ lt. absurd (omega arith)) (λ gt. absurd (omega arith)) (λ _. refl) in
            let same = count_three a k j (balanced c j u (detached k l) r) (balanced c j u l (detached k r)) (merged l r) (count a l + count a r) (λ lt. absurd (omega arith)) (λ gt. absurd (omega arith)) (λ _. count-merged a l r) in
            omega (arith, same, count-node a c j u l r, ap (λ b. times a (b ∷ [])) bc)
        | inr ne ↦
            let gt : j < k = omega arith in
            let br : block_at_key k (Node c j u l r) ≡ block_at_key k r = of_three (λ b. b ≡ block_at_key k r) k j (block_at_key k l) (block_at_key k r) c (λ lt. absurd (omega arith)) (λ _. refl) (λ e. absurd (omega arith)) in
            let same = count_three a k j (balanced c j u (detached k l) r) (balanced c j u l (detached k r)) (merged l r) (times a (c ∷ []) + (count a l + count a (detached k r))) (λ lt. absurd (omega arith)) (λ _. count-balanced a c j u l (detached k r)) (λ e. absurd (omega arith)) in
            omega (arith, same, count-node a c j u l r, ap (λ b. times a (b ∷ [])) br, count-detached a k x r p.back (sym (find_right k j u (entries l) (entries r) p gt) ∙ found))
      ]
    ]
