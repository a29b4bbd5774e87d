-- A region is well-formed exactly where its inspection breaks nowhere.
use Rattle.std.proofs.Common.{◌≡◌, ℕ, ◌+◌, ◌-◌, ◌^◌, ◌≤◌, List, [], ◌∷◌, length, refl, sym, ◌∙◌, ap, subst, arith}
use Rattle.std.specs.Prelude.{None, Ok, Err, slice_index, nat_le, nat_lt, ◌&&◌}
use Rattle.std.specs.Ordering.{nat_cmp}
use Rattle.std.specs.FinMap as map
use Rattle.std.proofs.lemmas.Bool.{eqb-true}
use Rattle.rom_model.specs.History.{LAST_COUNT}
use Rattle.rom_model.specs.Blocks.{IsOrder, AreWords, region_len}
use Rattle.rom_model.specs.Chains.{times}
use Rattle.rom_model.specs.Tests.{test, tested, checked, is_word, are_zero}
use Rattle.rom_model.specs.declared.unfit.Break.{Break}
use Rattle.rom_model.specs.declared.unfit.Unfit.{Unfit}
use Rattle.rom_model.specs.declared.unfit.Unfit.TheVariants.{Malformed, Old, OutOfMemory}
use Rattle.rom_model.specs.declared.unfit.Rule.TheVariants as rule
use Rattle.rom_model.proofs.Members.{words_same}
use Rattle.rom_model.proofs.Outcomes.{one_ok, not_both}
use Rattle.rom_model.proofs.Holding.{all_hold, holds_more, word_holds, zeros_hold, held_zeros}
use Rattle.rom_order_region.specs.Tree.{entries, blocks}
use Rattle.rom_order_region.specs.Nodes.{AreNodesApart}
use Rattle.rom_order_region.proofs.Members.{count}
use Rattle.rom_order_region.proofs.Sorted.{of_rise}
use Rattle.rom_order_region.proofs.Frame.{apart_part}
use Rattle.rom_order_region.proofs.Walked.{length-entries}
use Rattle.rom_order_region.specs.State.{Pairs}
use Rattle.rom_order_region.specs.Region.{taken_pairs, IndexContents}
use Rattle.rom_order_region.specs.Inspection.{most_levels, Sub, IndexRoot, IndexInspection, RejectsIndex}
use Rattle.rom_order_region.proofs.Regions.{region_rises, region_size, region_low}
use Rattle.rom_order_region.proofs.Tested.{most_told, most_true}
use Rattle.rom_order_region.proofs.OneBreak.{inspection_single}
use Rattle.rom_order_region.proofs.Accepted.{sound, complete}

levels_enough : 21 ≤ most_levels
unfolding most_levels
levels_enough = omega arith

module _ {n : ℕ} (w : List ℕ) where
  same_taken : (bs cs : List ℕ) → ((q : ℕ) → times q bs ≡ times q cs) → AreWords n (taken_pairs n bs) w → AreWords n (taken_pairs n cs) w
  same_taken bs cs same are = words_same n (taken_pairs n bs) (taken_pairs n cs) w (λ i. ap (λ t. nat_le (2 ^ (n - 1)) i && nat_lt 0 t) (same (i - 2 ^ (n - 1)))) are

  -- where it breaks nowhere, the region is well-formed
  pub accepted : length w ≡ region_len n → (found : Sub) → IndexInspection n w (Ok found) → (s : Pairs) × (k : ℕ) × IndexContents n w s k
  accepted sized found is =
      let root : IndexRoot w (Ok tt) = is.1 in
      let nodes = is.2.1 in
      let allocator = is.2.2 in
      let sub = nodes.0 in
      let s1 = all_hold (is_word w 0 rule.Root 3) (is_word w 1 rule.Root 1 ∷ test 2 rule.Root (nat_le (slice_index w 2) LAST_COUNT) ∷ are_zero w 5 12 rule.Root) tt tt (sym root) in
      let s2 = all_hold (is_word w 1 rule.Root 1) (test 2 rule.Root (nat_le (slice_index w 2) LAST_COUNT) ∷ are_zero w 5 12 rule.Root) tt tt s1.rest in
      let s3 = all_hold (test 2 rule.Root (nat_le (slice_index w 2) LAST_COUNT)) (are_zero w 5 12 rule.Root) tt tt s2.rest in
      let walked = sound n w most_levels [] 3 None None sub nodes.1 in
      let sized_by = all_hold (is_word w 4 rule.Count (length sub.seen)) [] sub is.2.0 (sym nodes.2) in
      let same : sub ≡ is.2.0 = one_ok sub is.2.0 sized_by.rest in
      let t = sub.tree in
      let apart : AreNodesApart n sub.seen = walked.apart record { different = λ b. omega arith; within = λ b some. absurd (omega (arith, some)) } in
      let rises = of_rise (entries t) walked.rises in
      let s : Pairs = map.from_sorted (entries t) in
      let es : map.entries s ≡ entries t = map.entries-from_sorted nat_cmp (entries t) rises in (
        s,
        slice_index w 2,
        (
          t,
          record {
            as_long = sized;
            kind = eqb-true (slice_index w 0) 3 s1.here;
            version = eqb-true (slice_index w 1) 1 s2.here;
            count_is = refl;
            count_fits = most_told (slice_index w 2) LAST_COUNT s3.here;
            top = record { at_is = walked.link_is; stands = walked.stands; apart = apart_part sub.seen (blocks t) (λ q. omega (arith, walked.counts q)) apart };
            balance = walked.balance;
            size = eqb-true (slice_index w 4) (length sub.seen) sized_by.here ∙ walked.long ∙ (let e : 0 + length (blocks t) ≡ length (blocks t) = omega arith in e) ∙ sym (length-entries t) ∙ sym (ap (λ xs. length xs) es) ∙ sym (map.len-entries s);
            zeros = λ k lo hi. let e : 5 + (k - 5) ≡ k = omega arith in ap (λ a. slice_index w a) (sym e) ∙ held_zeros w 5 12 rule.Root s3.rest (k - 5) (omega arith);
            entries_are = es;
            tree = same_taken sub.seen (blocks t) (λ q. omega (arith, walked.counts q)) (subst (λ (x : Sub). AreWords n (taken_pairs n x.seen) w) (sym same) allocator.1);
          },
        ),
      )

  -- where the region is well-formed, it breaks nowhere
  pub passes : IsOrder n → (s : Pairs) (k : ℕ) → IndexContents n w s k → (found : Sub) × IndexInspection n w (Ok found)
  passes order s k held =
      let is = held.1 in
      let t = held.0 in
      let walked = complete n w most_levels [] 3 None None t is.top.at_is is.top.stands is.balance (region_rises is) tt tt (omega (arith, region_low order is, levels_enough)) (λ q. omega (arith, is.top.apart.different q)) is.top.apart.within in
      let sub = walked.sub in
      let sub_is = sound n w most_levels [] 3 None None sub walked.walks in
      let same_blocks : length (blocks sub.tree) ≡ length (blocks t) = ap (λ x. length (blocks x)) walked.tree_is in
      let size : slice_index w 4 ≡ length sub.seen = omega (arith, is.size, region_size is, length-entries t, sub_is.long, same_blocks) in
      let zeros : checked (are_zero w 5 12 rule.Root) ≡ Ok tt = zeros_hold w 5 12 rule.Root (λ j lt. is.zeros (5 + j) (omega arith) (omega (arith, lt))) in
      let root : IndexRoot w (Ok tt) = sym (
      word_holds w 0 rule.Root 3 (is_word w 1 rule.Root 1 ∷ test 2 rule.Root (nat_le (slice_index w 2) LAST_COUNT) ∷ are_zero w 5 12 rule.Root) tt is.kind
      ∙ word_holds w 1 rule.Root 1 (test 2 rule.Root (nat_le (slice_index w 2) LAST_COUNT) ∷ are_zero w 5 12 rule.Root) tt is.version
      ∙ holds_more (test 2 rule.Root (nat_le (slice_index w 2) LAST_COUNT)) (are_zero w 5 12 rule.Root) tt (most_true (slice_index w 2) LAST_COUNT (omega (arith, is.count_is, is.count_fits)))
      ∙ zeros) in
      let sized : Ok sub ≡ tested (is_word w 4 rule.Count (length sub.seen) ∷ []) sub = sym (word_holds w 4 rule.Count (length sub.seen) [] sub size) in
      let words : AreWords n (taken_pairs n sub.seen) w = same_taken (blocks t) sub.seen (λ q. omega (arith, sub_is.counts q, ap (λ x. count q x) walked.tree_is)) is.tree in
      (sub, (tt, root, (sub, (sub, walked.walks, sized), (refl, words))))

  -- a first break excludes it
  pub refused : IsOrder n → (e : Unfit) → RejectsIndex n w e → (s : Pairs) (k : ℕ) → IndexContents n w s k → ⊥
  refused order (Malformed offset rule) broke s k held =
      let p = passes order s k held in
      let e : Break = record { offset = offset; rule = rule } in
      not_both p.0 e (inspection_single n w (Ok p.0) (Err e) p.1 broke)
  refused order Old broke s k held = broke
  refused order OutOfMemory broke s k held = broke
