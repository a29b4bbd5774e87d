use Rattle.std.proofs.Common.{ℕ, take}
use Rattle.rom_model.specs.VecSpace.{words_of_space}
use Rattle.rom_blob_region.specs.State.{BlobState}
use Rattle.rom_blob_region.specs.Region.{BlobContents}
use Rattle.rom_blob_carry.specs.Elements.{entries_in}
use Rattle.rom_blob_carry.specs.Grown.{after_sets}
use Rattle.rom_blob_carry.proofs.grow.set_all.Given as goal

-- the keys so far have their bytes
abbrev pub invariant-loop-one : goal.invariant-loop-one
invariant-loop-one l = (s : BlobState) (k : ℕ) → BlobContents l.order (words_of_space l.fn.space) s k → BlobContents l.order (words_of_space l.space) (after_sets l.order s (entries_in (take l.one-index l.kept))) k
