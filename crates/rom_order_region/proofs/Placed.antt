-- Where a key's entry stands among those of a tree, before and after a change.
use Rattle.std.proofs.Common.{◌≡◌, inl, inr, ℕ, ◌<◌, ◌≤◌, List, [], ◌∷◌, ◌++◌, refl, sym, ◌∙◌, ap, subst, arith, append_assoc}
use Rattle.std.specs.Prelude.{Option, Some, None, nat_lt, if◌then◌else◌}
use Rattle.std.specs.Ordering.{nat_cmp}
use Rattle.std.specs.FinMap.{find}
use Rattle.std.proofs.lemmas.Bool.{cases_eq, cases_lt}
use Rattle.rom_order_region.specs.Tree.{Tree, Leaf, Node, entries, balanced, attached, leftmost_of, without_first, merged, detached, revalued}
use Rattle.rom_order_region.proofs.Choice.{of_below}
use Rattle.rom_order_region.proofs.Order.{entries-balanced}
use Rattle.rom_order_region.proofs.Members.{count, count-node}
use Rattle.rom_order_region.specs.Keys.{KeysBelow, KeysAbove, EntriesRise}
use Rattle.rom_order_region.proofs.Sorted.{Parts, parts, above_append, below_append, above_less, below_less, find_first, find_behind, find_before}

pub same_some : (x y : ℕ) → ◌≡◌ {A = Option ℕ} (Some x) (Some y) → x ≡ y
same_some x y e = cc

pub not_none : (x : ℕ) → ◌≡◌ {A = Option ℕ} (Some x) None → ⊥
not_none x e = cc

module _ (q j u : ℕ) (xs ys : List (ℕ × ℕ)) (p : Parts xs j ys) where
  -- a look-up goes left, ends here, or goes right
  pub find_left : q < j → find nat_cmp q (xs ++ (j, u) ∷ ys) ≡ find nat_cmp q xs
  find_left lt = find_before q xs ((j, u) ∷ ys) (lt, above_less q j ys (omega arith) p.above)

  pub find_here : q ≡ j → find nat_cmp q (xs ++ (j, u) ∷ ys) ≡ Some u
  find_here same = find_behind q xs ((j, u) ∷ ys) (below_less q j xs (omega (arith, same)) p.below) ∙ find_first q (j, u) ys same

  pub find_right : j < q → find nat_cmp q (xs ++ (j, u) ∷ ys) ≡ find nat_cmp q ys
  find_right lt =
      find_behind q xs ((j, u) ∷ ys) (below_less q j xs (omega arith) p.below) ∙ find_behind q ((j, u) ∷ []) ys (lt, tt)

-- round a key that is not there
pub record Gap (k : ℕ) (es : List (ℕ × ℕ)) (new : ℕ → List (ℕ × ℕ)) : Type 0 where
  pub front : List (ℕ × ℕ)
  pub back : List (ℕ × ℕ)
  pub below : KeysBelow k front
  pub above : KeysAbove k back
  pub are : es ≡ front ++ back
  pub become : (v : ℕ) → new v ≡ front ++ (k, v) ∷ back

-- round a key that is there
pub record Spot (k u : ℕ) (es : List (ℕ × ℕ)) (new : List (ℕ × ℕ)) (changed : ℕ → List (ℕ × ℕ)) : Type 0 where
  pub front : List (ℕ × ℕ)
  pub back : List (ℕ × ℕ)
  pub below : KeysBelow k front
  pub above : KeysAbove k back
  pub are : es ≡ front ++ (k, u) ∷ back
  pub become : new ≡ front ++ back
  pub change : (v : ℕ) → changed v ≡ front ++ (k, v) ∷ back

entries_choice : (k j : ℕ) (x y : Tree) (z : List (ℕ × ℕ)) → (k < j → entries x ≡ z) → (j ≤ k → entries y ≡ z) → entries (if nat_lt k j then x else y) ≡ z
entries_choice k j x y z p q = of_below (λ t. entries t ≡ z) k j x y p q

-- in a list that goes on to the right, or to the left
module _ (k j w : ℕ) (es : List (ℕ × ℕ)) where
  gap_left : (ys : List (ℕ × ℕ)) (new full : ℕ → List (ℕ × ℕ)) → k < j → KeysAbove j ys → Gap k es new → ((v : ℕ) → full v ≡ new v ++ (j, w) ∷ ys) → Gap k (es ++ (j, w) ∷ ys) full
  gap_left ys new full lt above g full_is = record {
    front = g.front;
    back = g.back ++ (j, w) ∷ ys;
    below = g.below;
    above = above_append k g.back ((j, w) ∷ ys) g.above (lt, above_less k j ys (omega arith) above);
    are = ap (λ xs. xs ++ (j, w) ∷ ys) g.are ∙ append_assoc g.front g.back ((j, w) ∷ ys);
    become = λ v. full_is v ∙ ap (λ xs. xs ++ (j, w) ∷ ys) (g.become v) ∙ append_assoc g.front ((k, v) ∷ g.back) ((j, w) ∷ ys);
  }

  gap_right : (xs : List (ℕ × ℕ)) (new full : ℕ → List (ℕ × ℕ)) → j < k → KeysBelow j xs → Gap k es new → ((v : ℕ) → full v ≡ xs ++ (j, w) ∷ new v) → Gap k (xs ++ (j, w) ∷ es) full
  gap_right xs new full lt below g full_is = record {
    front = xs ++ (j, w) ∷ g.front;
    back = g.back;
    below = below_append k xs ((j, w) ∷ g.front) (below_less k j xs (omega arith) below) (lt, g.below);
    above = g.above;
    are = ap (λ ys. xs ++ (j, w) ∷ ys) g.are ∙ sym (append_assoc xs ((j, w) ∷ g.front) g.back);
    become = λ v. full_is v ∙ ap (λ ys. xs ++ (j, w) ∷ ys) (g.become v) ∙ sym (append_assoc xs ((j, w) ∷ g.front) ((k, v) ∷ g.back));
  }

  spot_left : (u : ℕ) (ys new full : List (ℕ × ℕ)) (changed all : ℕ → List (ℕ × ℕ)) → k < j → KeysAbove j ys → Spot k u es new changed → full ≡ new ++ (j, w) ∷ ys → ((v : ℕ) → all v ≡ changed v ++ (j, w) ∷ ys) → Spot k u (es ++ (j, w) ∷ ys) full all
  spot_left u ys new full changed all lt above g full_is all_are = record {
    front = g.front;
    back = g.back ++ (j, w) ∷ ys;
    below = g.below;
    above = above_append k g.back ((j, w) ∷ ys) g.above (lt, above_less k j ys (omega arith) above);
    are = ap (λ xs. xs ++ (j, w) ∷ ys) g.are ∙ append_assoc g.front ((k, u) ∷ g.back) ((j, w) ∷ ys);
    become = full_is ∙ ap (λ xs. xs ++ (j, w) ∷ ys) g.become ∙ append_assoc g.front g.back ((j, w) ∷ ys);
    change = λ v. all_are v ∙ ap (λ xs. xs ++ (j, w) ∷ ys) (g.change v) ∙ append_assoc g.front ((k, v) ∷ g.back) ((j, w) ∷ ys);
  }

  spot_right : (u : ℕ) (xs new full : List (ℕ × ℕ)) (changed all : ℕ → List (ℕ × ℕ)) → j < k → KeysBelow j xs → Spot k u es new changed → full ≡ xs ++ (j, w) ∷ new → ((v : ℕ) → all v ≡ xs ++ (j, w) ∷ changed v) → Spot k u (xs ++ (j, w) ∷ es) full all
  spot_right u xs new full changed all lt below g full_is all_are = record {
    front = xs ++ (j, w) ∷ g.front;
    back = g.back;
    below = below_append k xs ((j, w) ∷ g.front) (below_less k j xs (omega arith) below) (lt, g.below);
    above = g.above;
    are = ap (λ ys. xs ++ (j, w) ∷ ys) g.are ∙ sym (append_assoc xs ((j, w) ∷ g.front) ((k, u) ∷ g.back));
    become = full_is ∙ ap (λ ys. xs ++ (j, w) ∷ ys) g.become ∙ sym (append_assoc xs ((j, w) ∷ g.front) g.back);
    change = λ v. all_are v ∙ ap (λ ys. xs ++ (j, w) ∷ ys) (g.change v) ∙ sym (append_assoc xs ((j, w) ∷ g.front) ((k, v) ∷ g.back));
  }

-- a key that is not there is put in
pub gap : (b k : ℕ) (t : Tree) → EntriesRise (entries t) → find nat_cmp k (entries t) ≡ None → Gap k (entries t) (λ v. entries (attached b k v t))
gap b k Leaf rises none = record { front = []; back = []; below = tt; above = tt; are = refl; become = λ v. refl }
gap b k (Node c j u l r) rises none =
    let p = parts (entries l) (j, u) (entries r) rises in
    elim (cases_lt k j) [
      | inl left ↦ gap_left k j u (entries l) (entries r) (λ v. entries (attached b k v l)) (λ v. entries (attached b k v (Node c j u l r))) left p.above
          (gap b k l p.front (sym (find_left k j u (entries l) (entries r) p left) ∙ none))
          (λ v. entries_choice k j (balanced c j u (attached b k v l) r) (balanced c j u l (attached b k v r)) (entries (attached b k v l) ++ (j, u) ∷ entries r)
          (λ _. entries-balanced c j u (attached b k v l) r) (λ ge. absurd (omega arith)))
      | inr ge ↦ elim (cases_eq k j) [
        | inl same ↦ absurd (not_none u (sym (find_here k j u (entries l) (entries r) p same) ∙ none))
        | inr other ↦
            let right : j < k = omega arith in
            gap_right k j u (entries r) (entries l) (λ v. entries (attached b k v r)) (λ v. entries (attached b k v (Node c j u l r))) right p.below
            (gap b k r p.back (sym (find_right k j u (entries l) (entries r) p right) ∙ none))
            (λ v. entries_choice k j (balanced c j u (attached b k v l) r) (balanced c j u l (attached b k v r)) (entries l ++ (j, u) ∷ entries (attached b k v r))
            (λ lt. absurd (omega arith)) (λ _. entries-balanced c j u l (attached b k v r)))
      ]
    ]

-- the first entry, and the others
entries-first : (b k v : ℕ) (l r : Tree) → ((leftmost_of b k v l).key, (leftmost_of b k v l).value) ∷ entries (without_first b k v l r) ≡ entries (Node b k v l r)
entries-first b k v Leaf r = refl
entries-first b k v (Node c j u x y) r =
    let f = leftmost_of c j u x in
    ap (λ es. (f.key, f.value) ∷ es) (entries-balanced b k v (without_first c j u x y) r) ∙ ap (λ es. es ++ (k, v) ∷ entries r) (entries-first c j u x y)

pub entries-merged : (l r : Tree) → entries (merged l r) ≡ entries l ++ entries r
entries-merged l Leaf = sym (append_nil (entries l))
  where
    append_nil : (es : List (ℕ × ℕ)) → es ++ [] ≡ es
    append_nil [] = refl
    append_nil (e ∷ es) = ap (λ xs. e ∷ xs) (append_nil es)
entries-merged l (Node c j u x y) =
    let f = leftmost_of c j u x in
    entries-balanced f.block f.key f.value l (without_first c j u x y) ∙ ap (λ es. entries l ++ es) (entries-first c j u x y)

entries_three : (k j : ℕ) (x y z : Tree) (es : List (ℕ × ℕ)) → (k < j → entries x ≡ es) → (j < k → entries y ≡ es) → (k ≡ j → entries z ≡ es) → entries (if nat_lt k j then x else if nat_lt j k then y else z) ≡ es
entries_three k j x y z es p q r = of_below (λ t. entries t ≡ es) k j x (if nat_lt j k then y else z) p (λ ge. of_below (λ t. entries t ≡ es) j k y z q (λ le. r (omega arith)))

-- a key that is there goes, or gets another value
pub spot : (k u : ℕ) (t : Tree) → EntriesRise (entries t) → find nat_cmp k (entries t) ≡ Some u → Spot k u (entries t) (entries (detached k t)) (λ v. entries (revalued k v t))
spot k u Leaf rises some = absurd (not_none u (sym some))
spot k u (Node c j w l r) rises some =
    let p = parts (entries l) (j, w) (entries r) rises in
    elim (cases_lt k j) [
      | inl left ↦ spot_left k j w (entries l) u (entries r) (entries (detached k l)) (entries (detached k (Node c j w l r))) (λ v. entries (revalued k v l)) (λ v. entries (revalued k v (Node c j w l r))) left p.above
          (spot k u l p.front (sym (find_left k j w (entries l) (entries r) p left) ∙ some))
          (entries_three k j (balanced c j w (detached k l) r) (balanced c j w l (detached k r)) (merged l r) (entries (detached k l) ++ (j, w) ∷ entries r)
          (λ _. entries-balanced c j w (detached k l) r) (λ lt. absurd (omega arith)) (λ e. absurd (omega arith)))
          (λ v. entries_three k j (Node c j w (revalued k v l) r) (Node c j w l (revalued k v r)) (Node c k v l r) (entries (revalued k v l) ++ (j, w) ∷ entries r)
          (λ _. refl) (λ lt. absurd (omega arith)) (λ e. absurd (omega arith)))
      | inr ge ↦ elim (cases_eq k j) [
        | inl same ↦ record {
          front = entries l;
          back = entries r;
          below = subst (λ a. KeysBelow a (entries l)) (sym same) p.below;
          above = subst (λ a. KeysAbove a (entries r)) (sym same) p.above;
          are = let value : w ≡ u = same_some w u (sym (find_here k j w (entries l) (entries r) p same) ∙ some) in λ i. entries l ++ (sym same i, value i) ∷ entries r;
          become = entries_three k j (balanced c j w (detached k l) r) (balanced c j w l (detached k r)) (merged l r) (entries l ++ entries r)
              (λ lt. absurd (omega arith)) (λ lt. absurd (omega arith)) (λ _. entries-merged l r);
          change = λ v. entries_three k j (Node c j w (revalued k v l) r) (Node c j w l (revalued k v r)) (Node c k v l r) (entries l ++ (k, v) ∷ entries r)
              (λ lt. absurd (omega arith)) (λ lt. absurd (omega arith)) (λ _. refl);
        }
        | inr other ↦
            let right : j < k = omega arith in
            spot_right k j w (entries r) u (entries l) (entries (detached k r)) (entries (detached k (Node c j w l r))) (λ v. entries (revalued k v r)) (λ v. entries (revalued k v (Node c j w l r))) right p.below
            (spot k u r p.back (sym (find_right k j w (entries l) (entries r) p right) ∙ some))
            (entries_three k j (balanced c j w (detached k l) r) (balanced c j w l (detached k r)) (merged l r) (entries l ++ (j, w) ∷ entries (detached k r))
            (λ lt. absurd (omega arith)) (λ _. entries-balanced c j w l (detached k r)) (λ e. absurd (omega arith)))
            (λ v. entries_three k j (Node c j w (revalued k v l) r) (Node c j w l (revalued k v r)) (Node c k v l r) (entries l ++ (j, w) ∷ entries (revalued k v r))
            (λ lt. absurd (omega arith)) (λ _. refl) (λ e. absurd (omega arith)))
      ]
    ]

pub count_three : (a k j : ℕ) (x y z : Tree) (m : ℕ) → (k < j → count a x ≡ m) → (j < k → count a y ≡ m) → (k ≡ j → count a z ≡ m) → count a (if nat_lt k j then x else if nat_lt j k then y else z) ≡ m
count_three a k j x y z m p q r = of_below (λ t. count a t ≡ m) k j x (if nat_lt j k then y else z) p (λ ge. of_below (λ t. count a t ≡ m) j k y z q (λ le. r (omega arith)))

-- the blocks stay
pub count-revalued : (a k v : ℕ) (t : Tree) → count a (revalued k v t) ≡ count a t
count-revalued a k v Leaf = refl
count-revalued a k v (Node c j w l r) = count_three a k j (Node c j w (revalued k v l) r) (Node c j w l (revalued k v r)) (Node c k v l r) (count a (Node c j w l r))
    (λ _. omega (arith, count-node a c j w (revalued k v l) r, count-node a c j w l r, count-revalued a k v l))
    (λ _. omega (arith, count-node a c j w l (revalued k v r), count-node a c j w l r, count-revalued a k v r))
    (λ _. omega (arith, count-node a c k v l r, count-node a c j w l r))
