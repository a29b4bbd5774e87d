-- Tests of a node, one after another.
use Rattle.std.proofs.Common.{◌≡◌, ℕ, ◌+◌, max, List, [], ◌∷◌, ◌++◌, sym, ◌∙◌, arith}
use Rattle.std.specs.Prelude.{Option, Result, Ok, Err, ◌&&◌, slice_index, nat_le}
use Rattle.rom_model.specs.Tests.{Test, test, checked, is_word, are_zero}
use Rattle.rom_model.specs.declared.unfit.Break.{Break}
use Rattle.rom_model.specs.declared.unfit.Rule.TheVariants as rule
use Rattle.rom_model.proofs.InTurn.{first_breaks, first_holds}
use Rattle.rom_order_region.specs.Tree.{Tree, height}
use Rattle.rom_order_region.specs.Nodes.{node_at}
use Rattle.rom_order_region.specs.Inspection.{is_over, is_under, entry_tests, height_tests}

module _ (w : List ℕ) (low high : Option ℕ) (at : ℕ) where
  abbrev zeros : List Test
  zeros = are_zero w (at + 5) 3 rule.Pad

  abbrev last : Test
  last = test at rule.Order (is_over low (slice_index w at) && is_under high (slice_index w at))

  module _ (n b : ℕ) (here : at ≡ node_at n b) (r : Result (Unit {0}) Break) where
    moved : r ≡ checked (zeros ++ last ∷ []) → r ≡ checked (entry_tests n w low high b)
    moved is =
        let tests = λ (a six seven : ℕ). checked (is_word w (a + 5) rule.Pad 0 ∷ is_word w six rule.Pad 0 ∷ is_word w seven rule.Pad 0 ∷ test a rule.Order (is_over low (slice_index w a) && is_under high (slice_index w a)) ∷ []) in
        let six : at + 5 + 1 ≡ node_at n b + 6 = omega (arith, here) in
        let seven : at + 5 + 1 + 1 ≡ node_at n b + 7 = omega (arith, here) in
        is ∙ (λ i. tests (here i) (six i) (seven i))

    pub entry_broke : (e : Break) → r ≡ Err e → checked zeros ≡ Err e → r ≡ checked (entry_tests n w low high b)
    entry_broke e is broke = moved (is ∙ sym (first_breaks tt zeros (last ∷ []) e broke))

    pub entry_last : checked zeros ≡ Ok tt → r ≡ checked (last ∷ []) → r ≡ checked (entry_tests n w low high b)
    entry_last holds is = moved (is ∙ sym (first_holds tt zeros (last ∷ []) holds))

module _ (w : List ℕ) (at x y : ℕ) where
  abbrev tall : Test
  tall = is_word w (at + 4) rule.Count (max x y + 1)

  abbrev even : Test
  even = test (at + 4) rule.Ends (nat_le x (y + 1) && nat_le y (x + 1))

  module _ (n b : ℕ) (l r : Tree) (here : at ≡ node_at n b) (left : x ≡ height l) (right : y ≡ height r) (res : Result (Unit {0}) Break) where
    placed : res ≡ checked (tall ∷ even ∷ []) → res ≡ checked (height_tests n w b l r)
    placed is =
        let tests = λ (a p q : ℕ). checked (is_word w (a + 4) rule.Count (max p q + 1) ∷ test (a + 4) rule.Ends (nat_le p (q + 1) && nat_le q (p + 1)) ∷ []) in
        is ∙ (λ i. tests (here i) (left i) (right i))

    pub height_one : (e : Break) → res ≡ Err e → checked (tall ∷ []) ≡ Err e → res ≡ checked (height_tests n w b l r)
    height_one e is broke = placed (is ∙ sym (first_breaks tt (tall ∷ []) (even ∷ []) e broke))

    pub height_last : checked (tall ∷ []) ≡ Ok tt → res ≡ checked (even ∷ []) → res ≡ checked (height_tests n w b l r)
    height_last first is = placed (is ∙ sym (first_holds tt (tall ∷ []) (even ∷ []) first))
