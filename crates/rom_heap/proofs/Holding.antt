-- What the tests of a node say where they hold, and what makes them hold.
use Rattle.std.proofs.Common.{◌≡◌, ℕ, zero, suc, ◌+◌, ◌-◌, ◌<◌, ◌≤◌, true, List, [], ◌∷◌, ◌∙◌, ap, arith}
use Rattle.std.specs.Prelude.{Ok, slice_index, ◌==◌, nat_le}
use Rattle.std.proofs.lemmas.Bool.{eq-eqb, eqb-true, le-leb, leb-true}
use Rattle.rom_model.specs.declared.unfit.Rule.TheVariants.{Pad, Order, Bucket, Repeat, Stamp}
use Rattle.rom_model.specs.Blocks.{block_of}
use Rattle.rom_model.specs.Chains.{times, each_word}
use Rattle.rom_model.specs.Region.{bucket_of}
use Rattle.rom_heap.specs.declared.inspect.walk.Walk.TheVariants as along
use Rattle.rom_model.specs.Tests.{Test, test, checked, are_zero}
use Rattle.rom_heap.specs.Walks.{key_of, is_above, node_tests}
use Rattle.rom_model.proofs.Holding.{all_hold, holds_more, zeros_hold, held_zeros, hold_both, both_hold}

module _ (n : ℕ) (w before : List ℕ) (b : ℕ) where
  pads_there : (j : ℕ) → 2 ≤ j → j < 4 → checked (are_zero w (block_of n b + 2) 2 Pad) ≡ Ok tt → slice_index w (block_of n b + j) ≡ 0
  pads_there j lo hi hold = (let e : block_of n b + j ≡ block_of n b + 2 + (j - 2) = omega arith in ap (λ i. slice_index w i) e) ∙ held_zeros w (block_of n b + 2) 2 Pad hold (j - 2) (omega arith)

  there_pads : slice_index w (block_of n b + 2) ≡ 0 → slice_index w (block_of n b + 3) ≡ 0 → checked (are_zero w (block_of n b + 2) 2 Pad) ≡ Ok tt
  there_pads third fourth = zeros_hold w (block_of n b + 2) 2 Pad pads
    where
      pads : (k : ℕ) → k < 2 → slice_index w (block_of n b + 2 + k) ≡ 0
      pads zero lt = (let e : block_of n b + 2 + 0 ≡ block_of n b + 2 = omega arith in ap (λ i. slice_index w i) e) ∙ third
      pads (suc zero) lt = (let e : block_of n b + 2 + 1 ≡ block_of n b + 3 = omega arith in ap (λ i. slice_index w i) e) ∙ fourth
      pads (suc (suc k)) lt = absurd (omega (arith, lt))

  -- a node of the queue
  pub queue_pads : checked (node_tests n w along.Queue before b) ≡ Ok tt → (j : ℕ) → 2 ≤ j → j < 4 → slice_index w (block_of n b + j) ≡ 0
  queue_pads hold j lo hi = pads_there j lo hi hold

  pub queue_holds : slice_index w (block_of n b + 2) ≡ 0 → slice_index w (block_of n b + 3) ≡ 0 → checked (node_tests n w along.Queue before b) ≡ Ok tt
  queue_holds third fourth = there_pads third fourth

  -- a node of the set
  pub set_pads : checked (node_tests n w along.Set before b) ≡ Ok tt → (j : ℕ) → 2 ≤ j → j < 4 → slice_index w (block_of n b + j) ≡ 0
  set_pads hold j lo hi = pads_there j lo hi (hold_both (are_zero w (block_of n b + 2) 2 Pad) (test (block_of n b) Order (is_above n w before (key_of n w b)) ∷ []) hold).first

  pub set_above : checked (node_tests n w along.Set before b) ≡ Ok tt → is_above n w before (key_of n w b) ≡ true
  set_above hold =
      let t = test (block_of n b) Order (is_above n w before (key_of n w b)) in
      (all_hold t [] tt tt (hold_both (are_zero w (block_of n b + 2) 2 Pad) (t ∷ []) hold).second).here

  pub set_holds : slice_index w (block_of n b + 2) ≡ 0 → slice_index w (block_of n b + 3) ≡ 0 → is_above n w before (key_of n w b) ≡ true → checked (node_tests n w along.Set before b) ≡ Ok tt
  set_holds third fourth above =
      let t = test (block_of n b) Order (is_above n w before (key_of n w b)) in
      both_hold (are_zero w (block_of n b + 2) 2 Pad) (t ∷ []) (there_pads third fourth) (holds_more t [] tt above)

  -- a node of a bucket, in version 1
  module _ (i : ℕ) where
    own : Test
    own = test (block_of n b) Bucket (bucket_of n (key_of n w b) == i)

    once : Test
    once = test (block_of n b) Repeat (times (key_of n w b) (each_word n w 0 before) == 0)

    pub old_pad : checked (node_tests n w (along.OldBucket i) before b) ≡ Ok tt → slice_index w (block_of n b + 3) ≡ 0
    unfolding own once
    old_pad hold = (let e : block_of n b + 3 ≡ block_of n b + 3 + 0 = omega arith in ap (λ k. slice_index w k) e) ∙ held_zeros w (block_of n b + 3) 1 Pad (hold_both (are_zero w (block_of n b + 3) 1 Pad) (own ∷ once ∷ []) hold).first 0 (omega arith)

    pub old_own : checked (node_tests n w (along.OldBucket i) before b) ≡ Ok tt → bucket_of n (key_of n w b) ≡ i
    unfolding own once
    old_own hold = eqb-true (bucket_of n (key_of n w b)) i (all_hold own (once ∷ []) tt tt (hold_both (are_zero w (block_of n b + 3) 1 Pad) (own ∷ once ∷ []) hold).second).here

    pub old_once : checked (node_tests n w (along.OldBucket i) before b) ≡ Ok tt → times (key_of n w b) (each_word n w 0 before) ≡ 0
    unfolding own once
    old_once hold =
        let rest = (all_hold own (once ∷ []) tt tt (hold_both (are_zero w (block_of n b + 3) 1 Pad) (own ∷ once ∷ []) hold).second).rest in
        eqb-true (times (key_of n w b) (each_word n w 0 before)) 0 (all_hold once [] tt tt rest).here

    pub old_holds : slice_index w (block_of n b + 3) ≡ 0 → bucket_of n (key_of n w b) ≡ i → times (key_of n w b) (each_word n w 0 before) ≡ 0 → checked (node_tests n w (along.OldBucket i) before b) ≡ Ok tt
    unfolding own once
    old_holds pad its none =
        both_hold (are_zero w (block_of n b + 3) 1 Pad) (own ∷ once ∷ []) (zeros_hold w (block_of n b + 3) 1 Pad pads)
        (holds_more own (once ∷ []) tt (eq-eqb (bucket_of n (key_of n w b)) i its) ∙ holds_more once [] tt (eq-eqb (times (key_of n w b) (each_word n w 0 before)) 0 none))
      where
        pads : (k : ℕ) → k < 1 → slice_index w (block_of n b + 3 + k) ≡ 0
        pads zero lt = (let e : block_of n b + 3 + 0 ≡ block_of n b + 3 = omega arith in ap (λ k. slice_index w k) e) ∙ pad
        pads (suc k) lt = absurd (omega (arith, lt))

    -- a node of a bucket
    stamp : Test
    stamp = test (block_of n b + 3) Stamp (nat_le (slice_index w (block_of n b + 3)) (slice_index w 2))

    above : Test
    above = test (block_of n b) Order (is_above n w before (key_of n w b))

    pub bucket_stamp : checked (node_tests n w (along.Bucket i) before b) ≡ Ok tt → slice_index w (block_of n b + 3) ≤ slice_index w 2
    unfolding own stamp above
    bucket_stamp hold = leb-true (slice_index w (block_of n b + 3)) (slice_index w 2) (all_hold stamp (own ∷ above ∷ []) tt tt hold).here

    pub bucket_own : checked (node_tests n w (along.Bucket i) before b) ≡ Ok tt → bucket_of n (key_of n w b) ≡ i
    unfolding own stamp above
    bucket_own hold = eqb-true (bucket_of n (key_of n w b)) i (all_hold own (above ∷ []) tt tt (all_hold stamp (own ∷ above ∷ []) tt tt hold).rest).here

    pub bucket_above : checked (node_tests n w (along.Bucket i) before b) ≡ Ok tt → is_above n w before (key_of n w b) ≡ true
    unfolding own stamp above
    bucket_above hold = (all_hold above [] tt tt (all_hold own (above ∷ []) tt tt (all_hold stamp (own ∷ above ∷ []) tt tt hold).rest).rest).here

    pub bucket_holds : slice_index w (block_of n b + 3) ≤ slice_index w 2 → bucket_of n (key_of n w b) ≡ i → is_above n w before (key_of n w b) ≡ true → checked (node_tests n w (along.Bucket i) before b) ≡ Ok tt
    unfolding own stamp above
    bucket_holds fits its is =
        holds_more stamp (own ∷ above ∷ []) tt (le-leb (slice_index w (block_of n b + 3)) (slice_index w 2) fits)
        ∙ (holds_more own (above ∷ []) tt (eq-eqb (bucket_of n (key_of n w b)) i its) ∙ holds_more above [] tt is)
