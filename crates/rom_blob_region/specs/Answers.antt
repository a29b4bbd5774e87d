-- What is told of a region.
use Rattle.std.specs.Prelude.{ℕ, List, Result, Ok, Err}
use Rattle.rom_model.specs.declared.unfit.Unfit.{Unfit}
use Rattle.rom_model.specs.declared.unfit.Unfit.TheVariants.{Malformed, Old, OutOfMemory}
use Rattle.rom_blob_region.specs.State.{BlobState}
use Rattle.rom_blob_region.specs.Region.{BlobContents}
use Rattle.rom_blob_region.specs.Parts.{FirstBlobBreak}

-- The words are not a well-formed region, and this is the first break. There was no version before this one.
abbrev pub RejectsBlobs : ℕ → List ℕ → Unfit → Type 0
RejectsBlobs n words (Malformed offset rule) = FirstBlobBreak n words (record { offset = offset; rule = rule })
RejectsBlobs n words Old = ⊥
RejectsBlobs n words OutOfMemory = ⊥

-- The region is well-formed, and stands for some state and count.
abbrev pub IsSomeBlobs : ℕ → List ℕ → Type 0
IsSomeBlobs n words = (s : BlobState) × (k : ℕ) × BlobContents n words s k

-- What code answers that tests words: well-formed, or the first break, or nothing for want of memory.
abbrev pub AreBlobsInspected : ℕ → List ℕ → Result (Unit {0}) Unfit → Type 0
AreBlobsInspected n words (Ok done) = IsSomeBlobs n words
AreBlobsInspected n words (Err (Malformed offset rule)) = FirstBlobBreak n words record { offset = offset; rule = rule }
AreBlobsInspected n words (Err Old) = ⊥
AreBlobsInspected n words (Err OutOfMemory) = Unit {0}
