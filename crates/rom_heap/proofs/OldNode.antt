-- The last test of a node of a bucket of version 1, after the others held.
use Rattle.std.proofs.Common.{◌≡◌, ℕ, ◌+◌, Bool, true, false, List, [], ◌∷◌, ◌++◌, refl, sym, ◌∙◌, ap, arith}
use Rattle.std.specs.Prelude.{Ok, slice_index, ◌==◌, not}
use Rattle.rom_model.specs.declared.unfit.Rule.TheVariants.{Pad, Bucket, Repeat}
use Rattle.rom_model.specs.Blocks.{block_of}
use Rattle.rom_model.specs.Chains.{times, each_word}
use Rattle.rom_model.specs.Region.{bucket_of}
use Rattle.rom_heap.specs.declared.inspect.walk.Walk.TheVariants as along
use Rattle.rom_model.specs.Tests.{test, checked, are_zero}
use Rattle.rom_heap.specs.Walks.{key_of, node_tests}
use Rattle.rom_model.proofs.InTurn.{first_holds}

not_not : (t : Bool) → not (not t) ≡ t
not_not true = refl
not_not false = refl

module _ (n : ℕ) (w before : List ℕ) (number b node : ℕ) (stands : Bool) where
  pub last_decides : node ≡ block_of n b → checked (are_zero w (node + 3) 1 Pad) ≡ Ok tt → checked (test node Bucket (bucket_of n (slice_index w node) == number) ∷ []) ≡ Ok tt
      → stands ≡ not (times (slice_index w node) (each_word n w 0 before) == 0) → checked (test node Repeat (not stands) ∷ []) ≡ checked (node_tests n w (along.OldBucket number) before b)
  last_decides here pad own is =
      let key : slice_index w node ≡ key_of n w b = ap (λ a. slice_index w a) (let e : node ≡ block_of n b + 0 = omega arith in e) in
      let t1 = test node Bucket (bucket_of n (slice_index w node) == number) in
      let t2 = test node Repeat (times (slice_index w node) (each_word n w 0 before) == 0) in
      let last : not stands ≡ (times (slice_index w node) (each_word n w 0 before) == 0) = ap not is ∙ not_not (times (slice_index w node) (each_word n w 0 before) == 0) in
      ap (λ (t : Bool). checked (test node Repeat t ∷ [])) last
      ∙ (sym (first_holds tt (t1 ∷ []) (t2 ∷ []) own)
      ∙ (sym (first_holds tt (are_zero w (node + 3) 1 Pad) (t1 ∷ t2 ∷ []) pad)
      ∙ (ap (λ (k : ℕ). checked (are_zero w (node + 3) 1 Pad ++ (test node Bucket (bucket_of n k == number) ∷ test node Repeat (times k (each_word n w 0 before) == 0) ∷ []))) key
      ∙ ap (λ (a : ℕ). checked (are_zero w (a + 3) 1 Pad ++ (test a Bucket (bucket_of n (key_of n w b) == number) ∷ test a Repeat (times (key_of n w b) (each_word n w 0 before) == 0) ∷ []))) here)))
