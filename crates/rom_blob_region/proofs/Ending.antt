-- The buckets one after another, and the parts behind them.
use Rattle.std.proofs.Common.{◌≡◌, inl, inr, ℕ, zero, suc, ◌+◌, ◌<◌, ◌≤◌, Bool, List, [], ◌∷◌, ◌++◌, length, refl, sym, ◌∙◌, ap, subst, arith}
use Rattle.std.specs.Prelude.{Result, Ok, Err}
use Rattle.std.proofs.lemmas.Bool.{cases_lt}
use Rattle.rom_model.specs.Blocks.{IsOrder, region_len}
use Rattle.rom_model.specs.Region.{buckets}
use Rattle.rom_model.specs.declared.unfit.Rule.TheVariants.{Count}
use Rattle.rom_model.specs.declared.unfit.Break.{Break}
use Rattle.rom_model.specs.declared.unfit.Unfit.{Unfit}
use Rattle.rom_model.specs.declared.unfit.Unfit.TheVariants.{Malformed, Old, OutOfMemory}
use Rattle.rom_model.specs.Tests.{checked, is_word}
use Rattle.rom_block.specs.Taken.{IsTreeAnswer}
use Rattle.rom_blob_region.specs.State.{taken_with}
use Rattle.rom_blob_region.specs.Tests.{blob_root_tests, size_tests}
use Rattle.rom_blob_region.specs.Walks.{held, WalksBlobs, AreBlobMarks}
use Rattle.rom_blob_region.specs.Parts.{BucketByBucket, AnswersKeys}
use Rattle.rom_blob_region.specs.Answers.{AreBlobsInspected}
use Rattle.rom_blob_region.proofs.Wellformed.{well_formed}

module _ (n : ℕ) (w : List ℕ) where
  -- one walk more
  pub one_more : (i : ℕ) (before units : List ℕ) → BucketByBucket n w i (Ok before) → WalksBlobs n w i before (Ok units) → BucketByBucket n w (i + 1) (Ok (units ++ before))
  one_more i before units was is =
      let e : suc i ≡ i + 1 = omega arith in
      subst (λ (k : ℕ). BucketByBucket n w k (Ok (units ++ before))) e (before, was, (units, is, refl))

  broke_before : (i m : ℕ) (e : Break) → i ≤ m → BucketByBucket n w i (Err e) → BucketByBucket n w m (Err e)
  broke_before i zero e le broke = let z : i ≡ 0 = omega arith in subst (λ (k : ℕ). BucketByBucket n w k (Err e)) z broke
  broke_before i (suc m) e le broke = elim (cases_lt i (suc m)) [
    | inl lt ↦ inl (broke_before i m e (omega (arith, lt)) broke)
    | inr ge ↦ let z : i ≡ suc m = omega arith in subst (λ (k : ℕ). BucketByBucket n w k (Err e)) z broke
  ]

  pub one_broke : (i m : ℕ) (before : List ℕ) (e : Break) → i < m → BucketByBucket n w i (Ok before) → WalksBlobs n w i before (Err e) → BucketByBucket n w m (Err e)
  one_broke i m before e lt was broke =
      let here : BucketByBucket n w (suc i) (Err e) = inr (before, was, inl broke) in
      broke_before (suc i) m e (omega (arith, lt)) here

  module _ (root : checked (blob_root_tests n w) ≡ Ok tt) where
    -- after the number of keys
    pub keys_ended : (units : List ℕ) (count : ℕ) (marks : List Bool) (r : Result (Unit {0}) Break) → BucketByBucket n w (buckets n) (Ok units) → count ≡ length units → AreBlobMarks n (held n w units) marks → r ≡ checked (is_word w 3 Count count ∷ []) → AnswersKeys n w r marks
    keys_ended units count marks (Ok done) one long are is = (units, one, root, sym (is ∙ ap (λ (x : ℕ). checked (is_word w 3 Count x ∷ [])) long), are)
    keys_ended units count marks (Err e) one long are is = inr (tt, sym root, inr (units, one, inl (is ∙ ap (λ (x : ℕ). checked (is_word w 3 Count x ∷ [])) long)))

    -- after the tree
    pub tree_ended : (units : List ℕ) (r : Result (Unit {0}) Unfit) → IsOrder n → length w ≡ region_len n → BucketByBucket n w (buckets n) (Ok units) → checked (size_tests w units) ≡ Ok tt → IsTreeAnswer n (taken_with (held n w units)) w r → AreBlobsInspected n w r
    tree_ended units (Ok done) o long one size tree = well_formed n w o long root units one size tree
    tree_ended units (Err (Malformed offset rule)) o long one size tree = inr (tt, sym root, inr (units, one, inr (tt, sym size, tree)))
    tree_ended units (Err Old) o long one size tree = tree
    tree_ended units (Err OutOfMemory) o long one size tree = tt
