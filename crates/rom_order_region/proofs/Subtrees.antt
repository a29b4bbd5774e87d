-- What the code of the inspection answers of a subtree, by its steps.
use Rattle.std.proofs.Common.{◌≡◌, inl, inr, ⊎_elim, get_or, false, ℕ, zero, suc, ◌+◌, ◌-◌, ◌*◌, ◌^◌, ◌≤◌, max, Bool, List, [], ◌∷◌, length, refl, sym, ◌∙◌, ap, subst, arith, length-append}
use Rattle.std.specs.Prelude.{replicate, Option, Some, None, Result, Ok, Err, slice_index}
use Rattle.rom_model.specs.Blocks.{IsOrder, region_len}
use Rattle.rom_model.specs.Tests.{tested, checked, is_word}
use Rattle.rom_model.specs.declared.unfit.Break.{Break}
use Rattle.rom_model.specs.declared.unfit.Rule.TheVariants as rule
use Rattle.rom_model.proofs.InTurn.{breaking, passing}
use Rattle.rom_model.specs.declared.unfit.Unfit.{Unfit}
use Rattle.rom_model.specs.declared.unfit.Unfit.TheVariants.{Malformed, Old, OutOfMemory}
use Rattle.rom_model.specs.Parts.{Then}
use Rattle.rom_block.specs.Taken.{IsTreeAnswer}
use Rattle.rom_order_region.specs.Tree.{Leaf, blocks}
use Rattle.rom_order_region.specs.Nodes.{node_at, AreNodesApart}
use Rattle.rom_order_region.proofs.Frame.{few_nodes, height_few, half_small, apart_part}
use Rattle.rom_order_region.specs.declared.inspection.Reached.{Reached}
use Rattle.rom_order_region.specs.Inspection.{most_levels, Sub, LeadsToNode, entry_tests, height_tests, node_over, Subtree, index_root_tests, IndexRoot, Nodes, FirstIndexBreak}
use Rattle.rom_order_region.specs.Region.{taken_pairs}
use Rattle.rom_order_region.specs.Marks.{AreNodeMarks, HasWalkedTree, AnswersSub, AnswersNodes, IsIndexInspected}
use Rattle.rom_order_region.proofs.Pairs.{pair_absent}
use Rattle.rom_order_region.proofs.Breaking.{accepted}
use Rattle.rom_order_region.proofs.Accepted.{sound}

-- a walk's height and count are small
module _ {d n : ℕ} {w seen : List ℕ} {link : ℕ} {low high : Option ℕ} {reached : Reached} {marks : List Bool} (order : IsOrder n) (h : HasWalkedTree d n w seen link low high reached marks) where
  apart : AreNodesApart n (blocks h.sub.tree)
  apart = let is = sound n w d seen link low high h.sub h.walks in apart_part h.sub.seen (blocks h.sub.tree) (λ q. omega (arith, is.counts q)) h.marked.apart

  pub height_small : reached.height ≤ 32768
  height_small = omega (arith, h.height_is, height_few h.sub.tree apart, half_small n order)

  pub count_small : reached.count ≤ 32768
  count_small = omega (arith, h.count_is, few_nodes (blocks h.sub.tree) apart, half_small n order)

module _ (n : ℕ) (w seen : List ℕ) (link : ℕ) (low high : Option ℕ) (marks : List Bool) where
  -- at the lowest level
  pub bottom_ok : (levels : ℕ) → levels ≡ 0 → AreNodeMarks n seen marks → checked (is_word w link rule.Link 0 ∷ []) ≡ Ok tt → AnswersSub levels n w seen link low high (Ok record { height = 0; count = 0 }) marks
  bottom_ok levels none are holds = subst (λ d. AnswersSub d n w seen link low high (Ok record { height = 0; count = 0 }) marks) (sym none) record {
    sub = record { tree = Leaf; seen = seen };
    walks = sym (passing (is_word w link rule.Link 0 ∷ []) record { tree = Leaf; seen = seen } holds);
    height_is = refl;
    count_is = refl;
    marked = are;
  }

  pub bottom_err : (levels : ℕ) (e : Break) → levels ≡ 0 → checked (is_word w link rule.Link 0 ∷ []) ≡ Err e → AnswersSub levels n w seen link low high (Err e) marks
  bottom_err levels e none broke = subst (λ d. AnswersSub d n w seen link low high (Err e) marks) (sym none) (sym (breaking (is_word w link rule.Link 0 ∷ []) record { tree = Leaf; seen = seen } e broke))

  more : (levels : ℕ) → (levels ≡ 0 → ⊥) → suc (levels - 1) ≡ levels
  more levels some = omega arith

  -- nothing is linked
  pub none_linked : (levels : ℕ) → (levels ≡ 0 → ⊥) → AreNodeMarks n seen marks → slice_index w link ≡ 0 → AnswersSub levels n w seen link low high (Ok record { height = 0; count = 0 }) marks
  none_linked levels some are none = subst (λ d. AnswersSub d n w seen link low high (Ok record { height = 0; count = 0 }) marks) (more levels some) record {
    sub = record { tree = Leaf; seen = seen };
    walks = inl (none, refl);
    height_is = refl;
    count_is = refl;
    marked = are;
  }

  module _ (levels : ℕ) (some : levels ≡ 0 → ⊥) (linked : slice_index w link ≡ 0 → ⊥) where
    broken : (e : Break) → Subtree (suc (levels - 1)) n w seen link low high (Err e) → AnswersSub levels n w seen link low high (Err e) marks
    broken e broke = subst (λ d. AnswersSub d n w seen link low high (Err e) marks) (more levels some) broke

    pub astray : (e : Break) → ((b : ℕ) → LeadsToNode n w seen link b → ⊥) × (e ≡ record { offset = link; rule = rule.Link }) → AnswersSub levels n w seen link low high (Err e) marks
    astray e broke = broken e (inr (linked, inl broke))

    module _ (b : ℕ) (leads : LeadsToNode n w seen link b) where
      pub entry_broke : (e : Break) → checked (entry_tests n w low high b) ≡ Err e → AnswersSub levels n w seen link low high (Err e) marks
      entry_broke e broke = broken e (inr (linked, inr (b, leads, inl (sym (breaking (entry_tests n w low high b) (b ∷ seen) e broke)))))

      module _ (holds : checked (entry_tests n w low high b) ≡ Ok tt) where
        entry_is : Ok (b ∷ seen) ≡ tested (entry_tests n w low high b) (b ∷ seen)
        entry_is = sym (passing (entry_tests n w low high b) (b ∷ seen) holds)

        abbrev key : Option ℕ
        key = Some (slice_index w (node_at n b))

        pub left_broke : (e : Break) → Subtree (levels - 1) n w (b ∷ seen) (node_at n b + 2) low key (Err e) → AnswersSub levels n w seen link low high (Err e) marks
        left_broke e broke = broken e (inr (linked, inr (b, leads, inr (b ∷ seen, entry_is, inl broke))))

        module _ {l : Reached} {after : List Bool} (left : HasWalkedTree (levels - 1) n w (b ∷ seen) (node_at n b + 2) low key l after) where
          pub right_broke : (e : Break) → Subtree (levels - 1) n w left.sub.seen (node_at n b + 3) key high (Err e) → AnswersSub levels n w seen link low high (Err e) marks
          right_broke e broke = broken e (inr (linked, inr (b, leads, inr (b ∷ seen, entry_is, inr (left.sub, left.walks, inl broke)))))

          module _ {r : Reached} (right : HasWalkedTree (levels - 1) n w left.sub.seen (node_at n b + 3) key high r marks) where
            abbrev made : Sub
            made = record { tree = node_over n w b left.sub.tree right.sub.tree; seen = right.sub.seen }

            pub height_broke : (e : Break) → checked (height_tests n w b left.sub.tree right.sub.tree) ≡ Err e → AnswersSub levels n w seen link low high (Err e) marks
            height_broke e broke = broken e (inr (linked, inr (b, leads, inr (b ∷ seen, entry_is, inr (left.sub, left.walks, inr (right.sub, right.walks, sym (breaking (height_tests n w b left.sub.tree right.sub.tree) made e broke)))))))

            pub walked : (high_is : ℕ) → high_is ≡ max l.height r.height → checked (height_tests n w b left.sub.tree right.sub.tree) ≡ Ok tt → AnswersSub levels n w seen link low high (Ok record { height = high_is + 1; count = l.count + r.count + 1 }) marks
            walked high_is is fits = subst (λ d. AnswersSub d n w seen link low high (Ok record { height = high_is + 1; count = l.count + r.count + 1 }) marks) (more levels some) record {
              sub = made;
              walks = inr (linked, (b, leads, (b ∷ seen, entry_is, (left.sub, left.walks, (right.sub, right.walks, sym (passing (height_tests n w b left.sub.tree right.sub.tree) made fits))))));
              height_is = omega (arith, is, left.height_is, right.height_is);
              count_is = omega (arith, left.count_is, right.count_is, length-append (blocks left.sub.tree) (blocks right.sub.tree));
              marked = right.marked;
            }

-- the whole tree, and then its size
module _ (n : ℕ) (w : List ℕ) (marks : List Bool) where
  pub root_broke : (e : Break) → checked (index_root_tests w) ≡ Err e → AnswersNodes n w (Err e) marks
  root_broke e broke = inl (sym broke)

  module _ (holds : checked (index_root_tests w) ≡ Ok tt) where
    pub nodes_broke : (e : Break) → Subtree most_levels n w [] 3 None None (Err e) → AnswersNodes n w (Err e) marks
    nodes_broke e broke = inr (tt, sym holds, inl broke)

    pub nodes_sized : {reached : Reached} (r : Result (Unit {0}) Break) → HasWalkedTree most_levels n w [] 3 None None reached marks → r ≡ checked (is_word w 4 rule.Count reached.count ∷ []) → AnswersNodes n w r marks
    nodes_sized {reached} (Ok done) h is =
        let long : reached.count ≡ length h.sub.seen = omega (arith, h.count_is, (sound n w most_levels [] 3 None None h.sub h.walks).long) in
        let fits : checked (is_word w 4 rule.Count (length h.sub.seen) ∷ []) ≡ Ok tt = ap (λ m. checked (is_word w 4 rule.Count m ∷ [])) (sym long) ∙ sym is in
        (h.sub, (tt, sym holds, (h.sub, h.walks, sym (passing (is_word w 4 rule.Count (length h.sub.seen) ∷ []) h.sub fits))), h.marked)
    nodes_sized {reached} (Err e) h is =
        let long : reached.count ≡ length h.sub.seen = omega (arith, h.count_is, (sound n w most_levels [] 3 None None h.sub h.walks).long) in
        let broke : checked (is_word w 4 rule.Count (length h.sub.seen) ∷ []) ≡ Err e = ap (λ m. checked (is_word w 4 rule.Count m ∷ [])) (sym long) ∙ sym is in
        inr (tt, sym holds, inr (h.sub, h.walks, sym (breaking (is_word w 4 rule.Count (length h.sub.seen) ∷ []) h.sub e broke)))

-- after the allocator's tree
pub after_tree : (n : ℕ) (w : List ℕ) (sub : Sub) (r : Result (Unit {0}) Unfit) → length w ≡ region_len n → Then (IndexRoot w) (λ none. Nodes n w) (Ok sub) → IsTreeAnswer n (taken_pairs n sub.seen) w r → IsIndexInspected n w r
after_tree n w sub (Ok done) long nodes tree = accepted w long sub (nodes.0, nodes.1, (sub, nodes.2, (refl, tree)))
after_tree n w sub (Err (Malformed offset rule)) long nodes tree = inr (nodes.0, nodes.1, inr (sub, nodes.2, tree))
after_tree n w sub (Err Old) long nodes tree = tree
after_tree n w sub (Err OutOfMemory) long nodes tree = tt

pub before_tree : (n : ℕ) (w : List ℕ) (e : Break) → Then (IndexRoot w) (λ none. Nodes n w) (Err e) → FirstIndexBreak n w e
before_tree n w e broke = ⊎_elim (λ root. inl root) (λ nodes. inr (nodes.0, nodes.1, inl nodes.2)) broke

-- nothing is marked
pub none_marked : (n : ℕ) (marks : List Bool) → length marks ≡ 2 * 2 ^ n → ((i : ℕ) → get_or marks i false ≡ false) → AreNodeMarks n [] marks
none_marked n marks long bare = record { as_long = long; marked = λ i lt. bare i ∙ sym (pair_absent n [] i refl); apart = record { different = λ b. omega arith; within = λ b some. absurd (omega (arith, some)) } }

pub all_false : (m i : ℕ) → get_or (replicate m false) i false ≡ false
all_false zero i = refl
all_false (suc m) zero = refl
all_false (suc m) (suc i) = all_false m i
