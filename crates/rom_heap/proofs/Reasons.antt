-- What is told of a region that is not accepted, in either version.
use Rattle.std.proofs.Common.{◌≡◌, ℕ, true, false, List, refl, arith}
use Rattle.std.specs.Prelude.{slice_index}
use Rattle.std.proofs.lemmas.Bool.Decides.{nat_tests}
use Rattle.rom_model.specs.Region.{is_old, IsWellFormed}
use Rattle.rom_model.specs.declared.unfit.Unfit.{Unfit}
use Rattle.rom_model.specs.declared.unfit.Unfit.TheVariants.{Malformed, Old, OutOfMemory}
use Rattle.rom_heap.specs.declared.inspect.version.Version.TheVariants as version
use Rattle.rom_heap.specs.Answers.{IsOldWellFormed, Rejects, OldRejects}
use Rattle.rom_heap.proofs.Complete.{breaks_nowhere, breaks_once}

module _ (n : ℕ) (w : List ℕ) where
  one_or_other : is_old w ≡ false → is_old w ≡ true → ⊥
  one_or_other is_not is = cc

  new_number : slice_index w 1 ≡ 2 → is_old w ≡ false
  new_number number = grind (arith, nat_tests)

  pub rejects_none : (e : Unfit) → Rejects n w e → IsWellFormed n w → ⊥
  rejects_none (Malformed offset rule) broke is = breaks_nowhere version.Now record { offset = offset; rule = rule } broke.1 is
  rejects_none Old old is = one_or_other (new_number is.contents.1.version.version) old
  rejects_none OutOfMemory broke is = broke

  pub rejects_once : (e d : Unfit) → Rejects n w e → Rejects n w d → e ≡ d
  rejects_once (Malformed offset rule) (Malformed place other) broke also =
      let same = breaks_once version.Now record { offset = offset; rule = rule } record { offset = place; rule = other } broke.1 also.1 in
      λ i. Malformed (same i).offset (same i).rule
  rejects_once (Malformed offset rule) Old broke also = absurd (one_or_other broke.0 also)
  rejects_once Old (Malformed offset rule) broke also = absurd (one_or_other also.0 broke)
  rejects_once Old Old broke also = refl
  rejects_once e OutOfMemory broke also = absurd also
  rejects_once OutOfMemory d broke also = absurd broke

  pub old_rejects_none : (e : Unfit) → OldRejects n w e → IsOldWellFormed n w → ⊥
  old_rejects_none (Malformed offset rule) broke is = breaks_nowhere version.Old record { offset = offset; rule = rule } broke is
  old_rejects_none Old broke is = broke
  old_rejects_none OutOfMemory broke is = broke

  pub old_rejects_once : (e d : Unfit) → OldRejects n w e → OldRejects n w d → e ≡ d
  old_rejects_once (Malformed offset rule) (Malformed place other) broke also =
      let same = breaks_once version.Old record { offset = offset; rule = rule } record { offset = place; rule = other } broke also in
      λ i. Malformed (same i).offset (same i).rule
  old_rejects_once e Old broke also = absurd also
  old_rejects_once e OutOfMemory broke also = absurd also
  old_rejects_once Old d broke also = absurd broke
  old_rejects_once OutOfMemory d broke also = absurd broke
