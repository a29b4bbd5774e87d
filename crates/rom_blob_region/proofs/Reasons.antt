-- What is told of a region that is not accepted.
use Rattle.std.proofs.Common.{◌≡◌, ℕ, ◌^◌, ◌<◌, ◌≤◌, List}
use Rattle.std.specs.Prelude.{slice_index}
use Rattle.rom_model.specs.declared.unfit.Unfit.{Unfit}
use Rattle.rom_model.specs.declared.unfit.Unfit.TheVariants.{Malformed, Old, OutOfMemory}
use Rattle.rom_blob_region.specs.State.{BlobState}
use Rattle.rom_blob_region.specs.Region.{BlobContents}
use Rattle.rom_blob_region.specs.Answers.{RejectsBlobs}
use Rattle.rom_blob_region.proofs.Complete.{breaks_nowhere, breaks_once}

module _ (n : ℕ) (w : List ℕ) (le : 4 ≤ n) where
  pub rejects_none : ((k : ℕ) → slice_index w k < 2 ^ 64) → (e : Unfit) → RejectsBlobs n w e → (s : BlobState) (k : ℕ) → BlobContents n w s k → ⊥
  rejects_none small (Malformed offset rule) broke s k is = breaks_nowhere n w le small record { offset = offset; rule = rule } broke s k is
  rejects_none small Old broke s k is = broke
  rejects_none small OutOfMemory broke s k is = broke

  pub rejects_once : (e d : Unfit) → RejectsBlobs n w e → RejectsBlobs n w d → e ≡ d
  rejects_once (Malformed offset rule) (Malformed place other) broke also =
      let same = breaks_once n w le record { offset = offset; rule = rule } record { offset = place; rule = other } broke also in
      λ i. Malformed (same i).offset (same i).rule
  rejects_once e Old broke also = absurd also
  rejects_once e OutOfMemory broke also = absurd also
  rejects_once Old d broke also = absurd broke
  rejects_once OutOfMemory d broke also = absurd broke
