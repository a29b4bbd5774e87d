-- The inspection breaks nowhere exactly where the region is well-formed.
use Rattle.std.proofs.Common.{◌≡◌, ◌≢◌, inl, inr, ⊎_elim, ℕ, zero, suc, ◌+◌, ◌-◌, ◌^◌, ◌<◌, ◌≤◌, max, true, List, [], ◌∷◌, ◌++◌, length, refl, sym, ◌∙◌, ap, subst, arith, length-append}
use Rattle.std.specs.Prelude.{Option, Some, None, Ok, slice_index, ◌&&◌, nat_le}
use Rattle.std.proofs.lemmas.Bool.{cases_eq, eqb-true}
use Rattle.std.proofs.lemmas.Bool.Decides.{nat_tests}
use Rattle.rom_model.specs.Chains.{times}
use Rattle.rom_model.specs.Tests.{test, tested, is_word}
use Rattle.rom_model.specs.declared.unfit.Rule.TheVariants as rule
use Rattle.rom_model.proofs.Times.{times_here, times_away, times-append}
use Rattle.rom_model.proofs.Outcomes.{one_ok}
use Rattle.rom_model.proofs.Holding.{all_hold, holds_more, word_holds}
use Rattle.rom_order_region.specs.Tree.{Tree, Leaf, Node, entries, blocks, height, IsBalanced}
use Rattle.rom_order_region.specs.Nodes.{HoldsEntry, node_at, root, TreeStands, AreNodesApart}
use Rattle.rom_order_region.specs.Keys.{KeysBelow, KeysAbove, EntriesRise}
use Rattle.rom_order_region.proofs.Members.{count, count-node}
use Rattle.rom_order_region.proofs.Sorted.{parts, with_entry, above_append, below_append, above_front, below_front}
use Rattle.rom_order_region.specs.Inspection.{Sub, LeadsToNode, is_over, is_under, entry_tests, height_tests, node_over, Subtree}
use Rattle.rom_order_region.proofs.Tested.{both_told, both_true, less_told, most_told, most_true}

-- all keys are above the one or below the other, where there are such
abbrev pub Over : Option ℕ → List (ℕ × ℕ) → Type 0
Over None es = Unit {0}
Over (Some low) es = KeysAbove low es

abbrev pub Under : Option ℕ → List (ℕ × ℕ) → Type 0
Under None es = Unit {0}
Under (Some high) es = KeysBelow high es

over_join : (low : Option ℕ) (j u : ℕ) (xs ys : List (ℕ × ℕ)) → is_over low j ≡ true → Over low xs → KeysAbove j ys → Over low (xs ++ (j, u) ∷ ys)
over_join None j u xs ys is one two = tt
over_join (Some low) j u xs ys is one two = let lt = less_told low j is in above_append low xs ((j, u) ∷ ys) one (lt, less low j ys lt two)
  where
    less : (q p : ℕ) (es : List (ℕ × ℕ)) → q < p → KeysAbove p es → KeysAbove q es
    less q p [] lt above = tt
    less q p (e ∷ es) lt above = (omega (arith, above.0), less q p es lt above.1)

under_join : (high : Option ℕ) (j u : ℕ) (xs ys : List (ℕ × ℕ)) → is_under high j ≡ true → KeysBelow j xs → Under high ys → Under high (xs ++ (j, u) ∷ ys)
under_join None j u xs ys is one two = tt
under_join (Some high) j u xs ys is one two = let lt = less_told j high is in below_append high xs ((j, u) ∷ ys) (less high j xs lt one) (lt, two)
  where
    less : (q p : ℕ) (es : List (ℕ × ℕ)) → p < q → KeysBelow p es → KeysBelow q es
    less q p [] lt below = tt
    less q p (e ∷ es) lt below = (omega (arith, below.0), less q p es lt below.1)

-- what a subtree that was walked without a break is
pub record IsSub (n : ℕ) (w seen : List ℕ) (link : ℕ) (low high : Option ℕ) (sub : Sub) : Type 0 where
  pub link_is : slice_index w link ≡ root n sub.tree
  pub stands : TreeStands n w sub.tree
  pub balance : IsBalanced sub.tree
  pub rises : EntriesRise (entries sub.tree)
  pub above : Over low (entries sub.tree)
  pub below : Under high (entries sub.tree)
  pub counts : (q : ℕ) → times q sub.seen ≡ times q seen + count q sub.tree
  pub long : length sub.seen ≡ length seen + length (blocks sub.tree)
  pub apart : AreNodesApart n seen → AreNodesApart n sub.seen

module _ (n : ℕ) (w : List ℕ) where
  empty_sub : (seen : List ℕ) (link : ℕ) (low high : Option ℕ) → slice_index w link ≡ 0 → IsSub n w seen link low high record { tree = Leaf; seen = seen }
  empty_sub seen link low high none = record { link_is = none; stands = tt; balance = tt; rises = tt; above = open_over low; below = open_under high; counts = λ q. omega arith; long = omega arith; apart = λ p. p }
    where
      open_over : (low : Option ℕ) → Over low []
      open_over None = tt
      open_over (Some x) = tt

      open_under : (high : Option ℕ) → Under high []
      open_under None = tt
      open_under (Some x) = tt

  node_sub : (seen : List ℕ) (link : ℕ) (low high : Option ℕ) (b : ℕ) (reached : List ℕ) (left right : Sub) (found : Sub) → LeadsToNode n w seen link b → Ok reached ≡ tested (entry_tests n w low high b) (b ∷ seen)
      → IsSub n w reached (node_at n b + 2) low (Some (slice_index w (node_at n b))) left → IsSub n w left.seen (node_at n b + 3) (Some (slice_index w (node_at n b))) high right
      → Ok found ≡ tested (height_tests n w b left.tree right.tree) record { tree = node_over n w b left.tree right.tree; seen = right.seen } → IsSub n w seen link low high found
  node_sub seen link low high b reached left right found leads entry l r ends =
      let at = node_at n b in
      let key = slice_index w at in
      let key_ok = is_over low key && is_under high key in
      let t1 = all_hold (is_word w (at + 5) rule.Pad 0) (is_word w (at + 6) rule.Pad 0 ∷ is_word w (at + 7) rule.Pad 0 ∷ test at rule.Order key_ok ∷ []) (b ∷ seen) reached (sym entry) in
      let t2 = all_hold (is_word w (at + 6) rule.Pad 0) (is_word w (at + 7) rule.Pad 0 ∷ test at rule.Order key_ok ∷ []) (b ∷ seen) reached t1.rest in
      let t3 = all_hold (is_word w (at + 7) rule.Pad 0) (test at rule.Order key_ok ∷ []) (b ∷ seen) reached t2.rest in
      let t4 = all_hold (test at rule.Order key_ok) [] (b ∷ seen) reached t3.rest in
      let same : reached ≡ b ∷ seen = sym (one_ok (b ∷ seen) reached t4.rest) in
      let ordered = both_told (is_over low key) (is_under high key) t4.here in
      let made : Sub = record { tree = node_over n w b left.tree right.tree; seen = right.seen } in
      let within = nat_le (height left.tree) (height right.tree + 1) && nat_le (height right.tree) (height left.tree + 1) in
      let u1 = all_hold (is_word w (at + 4) rule.Count (max (height left.tree) (height right.tree) + 1)) (test (at + 4) rule.Ends within ∷ []) made found (sym ends) in
      let u2 = all_hold (test (at + 4) rule.Ends within) [] made found u1.rest in
      let found_is : made ≡ found = one_ok made found u2.rest in
      let balanced = both_told (nat_le (height left.tree) (height right.tree + 1)) (nat_le (height right.tree) (height left.tree + 1)) u2.here in
      let value = slice_index w (at + 1) in
      subst (λ (x : Sub). IsSub n w seen link low high x) found_is record {
        link_is = leads.here;
        stands = (
          record { key_is = refl; value_is = refl; sixth = eqb-true (slice_index w (at + 5)) 0 t1.here; seventh = eqb-true (slice_index w (at + 6)) 0 t2.here; eighth = eqb-true (slice_index w (at + 7)) 0 t3.here },
          record { left_is = l.link_is; right_is = r.link_is; high_is = eqb-true (slice_index w (at + 4)) (max (height left.tree) (height right.tree) + 1) u1.here },
          l.stands,
          r.stands,
        );
        balance = (most_told (height left.tree) (height right.tree + 1) balanced.0, most_told (height right.tree) (height left.tree + 1) balanced.1, l.balance, r.balance);
        rises = with_entry (entries left.tree) key value (entries right.tree) record { front = l.rises; below = l.below; above = r.above; back = r.rises };
        above = over_join low key value (entries left.tree) (entries right.tree) ordered.0 l.above r.above;
        below = under_join high key value (entries left.tree) (entries right.tree) ordered.1 l.below r.below;
        counts = λ q. omega (arith, r.counts q, l.counts q, ap (λ xs. times q xs) same, times-append q (b ∷ []) seen, count-node q b key value left.tree right.tree);
        long = omega (arith, r.long, l.long, ap (λ (xs : List ℕ). length xs) same, length-append (blocks left.tree) (blocks right.tree));
        apart = λ p. r.apart (l.apart (subst (λ xs. AreNodesApart n xs) (sym same) (more p)));
      }
    where
      more : AreNodesApart n seen → AreNodesApart n (b ∷ seen)
      more p = record {
        different = λ q. elim (cases_eq b q) [
          | inl is ↦ omega (arith, ap (λ (x : ℕ). times x (b ∷ seen)) is, ap (λ (x : ℕ). times x seen) is, times_here b seen, leads.fresh)
          | inr ne ↦ omega (arith, times_away q b seen ne, p.different q)
        ];
        within = λ q some. elim (cases_eq b q) [
          | inl is ↦ omega (arith, is, leads.most)
          | inr ne ↦ p.within q (omega (arith, some, times_away q b seen ne))
        ];
      }

  -- a walk without a break found a tree
  pub sound : (d : ℕ) (seen : List ℕ) (link : ℕ) (low high : Option ℕ) (sub : Sub) → Subtree d n w seen link low high (Ok sub) → IsSub n w seen link low high sub
  sound zero seen link low high sub is =
      let t = all_hold (is_word w link rule.Link 0) [] record { tree = Leaf; seen = seen } sub (sym is) in
      subst (λ (x : Sub). IsSub n w seen link low high x) (one_ok record { tree = Leaf; seen = seen } sub t.rest) (empty_sub seen link low high (eqb-true (slice_index w link) 0 t.here))
  sound (suc d) seen link low high sub is = ⊎_elim
      (λ empty. subst (λ (x : Sub). IsSub n w seen link low high x) (one_ok record { tree = Leaf; seen = seen } sub (sym empty.1)) (empty_sub seen link low high empty.0))
      (λ some.
      let a = some.1 in
      let b = a.2 in
      let c = b.2 in
      let e = c.2 in
      node_sub seen link low high a.0 b.0 c.0 e.0 sub a.1 b.1
      (sound d b.0 (node_at n a.0 + 2) low (Some (slice_index w (node_at n a.0))) c.0 c.1)
      (sound d c.0.seen (node_at n a.0 + 3) (Some (slice_index w (node_at n a.0))) high e.0 e.1)
      e.2)
      is

-- a tree that stands is walked without a break
is_over_of : (low : Option ℕ) (j key : ℕ) → key ≡ j → (es fs : List (ℕ × ℕ)) (u : ℕ) → Over low (es ++ (j, u) ∷ fs) → is_over low key ≡ true
is_over_of None j key is es fs u above = refl
is_over_of (Some low) j key is es fs u above = let lt : low < key = omega (arith, (above_front low es ((j, u) ∷ fs) above).1.0, is) in grind (arith, nat_tests)

is_under_of : (high : Option ℕ) (j key : ℕ) → key ≡ j → (es fs : List (ℕ × ℕ)) (u : ℕ) → Under high (es ++ (j, u) ∷ fs) → is_under high key ≡ true
is_under_of None j key is es fs u below = refl
is_under_of (Some high) j key is es fs u below = let lt : key < high = omega (arith, (below_front high es ((j, u) ∷ fs) below).1.0, is) in grind (arith, nat_tests)

over_left : (low : Option ℕ) (es fs : List (ℕ × ℕ)) → Over low (es ++ fs) → Over low es
over_left None es fs above = tt
over_left (Some low) es fs above = (above_front low es fs above).0

under_right : (high : Option ℕ) (es : List (ℕ × ℕ)) (e : ℕ × ℕ) (fs : List (ℕ × ℕ)) → Under high (es ++ e ∷ fs) → Under high fs
under_right None es e fs below = tt
under_right (Some high) es e fs below = (below_front high es (e ∷ fs) below).1.1

-- the walk of a tree
pub record Walked (d n : ℕ) (w seen : List ℕ) (link : ℕ) (low high : Option ℕ) (t : Tree) : Type 0 where
  pub sub : Sub
  pub walks : Subtree d n w seen link low high (Ok sub)
  pub tree_is : sub.tree ≡ t

module _ (n : ℕ) (w : List ℕ) where
  entry_passes : (b k v : ℕ) (low high : Option ℕ) (found : List ℕ) → HoldsEntry n w b k v → is_over low (slice_index w (node_at n b)) ≡ true → is_under high (slice_index w (node_at n b)) ≡ true → tested (entry_tests n w low high b) found ≡ Ok found
  entry_passes b k v low high found holds over_low under_high =
      let at = node_at n b in
      let key_ok = is_over low (slice_index w at) && is_under high (slice_index w at) in
      word_holds w (at + 5) rule.Pad 0 (is_word w (at + 6) rule.Pad 0 ∷ is_word w (at + 7) rule.Pad 0 ∷ test at rule.Order key_ok ∷ []) found holds.sixth
      ∙ word_holds w (at + 6) rule.Pad 0 (is_word w (at + 7) rule.Pad 0 ∷ test at rule.Order key_ok ∷ []) found holds.seventh
      ∙ word_holds w (at + 7) rule.Pad 0 (test at rule.Order key_ok ∷ []) found holds.eighth
      ∙ holds_more (test at rule.Order key_ok) [] found (both_true (is_over low (slice_index w at)) (is_under high (slice_index w at)) over_low under_high)

  height_passes : (b : ℕ) (l r : Tree) (found : Sub) → slice_index w (node_at n b + 4) ≡ max (height l) (height r) + 1 → height l ≤ height r + 1 → height r ≤ height l + 1 → tested (height_tests n w b l r) found ≡ Ok found
  height_passes b l r found level left right =
      let at = node_at n b in
      let even = nat_le (height l) (height r + 1) && nat_le (height r) (height l + 1) in
      word_holds w (at + 4) rule.Count (max (height l) (height r) + 1) (test (at + 4) rule.Ends even ∷ []) found level
      ∙ holds_more (test (at + 4) rule.Ends even) [] found (both_true (nat_le (height l) (height r + 1)) (nat_le (height r) (height l + 1)) (most_true (height l) (height r + 1) left) (most_true (height r) (height l + 1) right))

  -- a node after its subtrees were walked
  node_walked : (d : ℕ) (seen : List ℕ) (link : ℕ) (low high : Option ℕ) (b k v : ℕ) (l r : Tree) → LeadsToNode n w seen link b → HoldsEntry n w b k v → slice_index w (node_at n b + 4) ≡ max (height l) (height r) + 1
      → (height l ≤ height r + 1) × (height r ≤ height l + 1) → is_over low (slice_index w (node_at n b)) ≡ true → is_under high (slice_index w (node_at n b)) ≡ true
      → (left : Walked d n w (b ∷ seen) (node_at n b + 2) low (Some (slice_index w (node_at n b))) l) → Walked d n w left.sub.seen (node_at n b + 3) (Some (slice_index w (node_at n b))) high r
      → Walked (suc d) n w seen link low high (Node b k v l r)
  node_walked d seen link low high b k v l r leads holds level balance over_low under_high left right =
      let some : slice_index w link ≢ 0 = λ none. omega (arith, leads.here, none) in
      let made : Sub = record { tree = node_over n w b left.sub.tree right.sub.tree; seen = right.sub.seen } in
      let on_left : height left.sub.tree ≡ height l = ap height left.tree_is in
      let on_right : height right.sub.tree ≡ height r = ap height right.tree_is in
      let entry = entry_passes b k v low high (b ∷ seen) holds over_low under_high in
      let ends = height_passes b left.sub.tree right.sub.tree made (omega (arith, level, on_left, on_right)) (omega (arith, on_left, on_right, balance.0)) (omega (arith, on_left, on_right, balance.1)) in
      record {
        sub = made;
        walks = inr (some, (b, leads, (b ∷ seen, sym entry, (left.sub, left.walks, (right.sub, right.walks, sym ends)))));
        tree_is = λ i. Node b (holds.key_is i) (holds.value_is i) (left.tree_is i) (right.tree_is i);
      }

  pub complete : (d : ℕ) (seen : List ℕ) (link : ℕ) (low high : Option ℕ) (t : Tree) → slice_index w link ≡ root n t → TreeStands n w t → IsBalanced t → EntriesRise (entries t) → Over low (entries t) → Under high (entries t) → height t ≤ d
      → ((q : ℕ) → times q seen + count q t ≤ 1) → ((q : ℕ) → 0 < count q t → q < 2 ^ (n - 1)) → Walked d n w seen link low high t
  complete zero seen link low high Leaf link_is stands balance rises above below low_enough once within =
      record { sub = record { tree = Leaf; seen = seen }; walks = sym (word_holds w link rule.Link 0 [] record { tree = Leaf; seen = seen } link_is); tree_is = refl }
  complete zero seen link low high (Node b k v l r) link_is stands balance rises above below low_enough once within = absurd (omega (arith, low_enough))
  complete (suc d) seen link low high Leaf link_is stands balance rises above below low_enough once within = record { sub = record { tree = Leaf; seen = seen }; walks = inl (link_is, refl); tree_is = refl }
  complete (suc d) seen link low high (Node b k v l r) link_is stands balance rises above below low_enough once within =
      let at = node_at n b in
      let key = slice_index w at in
      let key_is : key ≡ k = stands.0.key_is in
      let p = parts (entries l) (k, v) (entries r) rises in
      let here : 0 < count b (Node b k v l r) = omega (arith, times_here b (blocks l ++ blocks r)) in
      let leads : LeadsToNode n w seen link b = record { here = link_is; most = within b here; fresh = omega (arith, once b, here) } in
      let over_low : is_over low key ≡ true = is_over_of low k key key_is (entries l) (entries r) v above in
      let under_high : is_under high key ≡ true = is_under_of high k key key_is (entries l) (entries r) v below in
      let counts : (q : ℕ) → times q (b ∷ seen) + (count q l + count q r) ≤ 1 = λ q. omega (arith, once q, count-node q b k v l r, times-append q (b ∷ []) seen) in
      let left = complete d (b ∷ seen) (at + 2) low (Some key) l stands.1.left_is stands.2 balance.2 p.front (over_left low (entries l) ((k, v) ∷ entries r) above) (subst (λ a. KeysBelow a (entries l)) (sym key_is) p.below)
      (omega (arith, low_enough)) (λ q. omega (arith, counts q)) (λ q in_l. within q (omega (arith, in_l, count-node q b k v l r))) in
      let left_is = sound n w d (b ∷ seen) (at + 2) low (Some key) left.sub left.walks in
      let right = complete d left.sub.seen (at + 3) (Some key) high r stands.1.right_is stands.3 balance.3 p.back (subst (λ a. KeysAbove a (entries r)) (sym key_is) p.above) (under_right high (entries l) (k, v) (entries r) below)
      (omega (arith, low_enough)) (λ q. omega (arith, counts q, left_is.counts q, ap (λ x. count q x) left.tree_is)) (λ q in_r. within q (omega (arith, in_r, count-node q b k v l r))) in
      node_walked d seen link low high b k v l r leads stands.0 stands.1.high_is (balance.0, balance.1) over_low under_high left right
