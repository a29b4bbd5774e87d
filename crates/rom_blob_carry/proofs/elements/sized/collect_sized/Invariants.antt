use Rattle.std.proofs.Common.{◌≡◌, ℕ, ◌++◌, take}
use Rattle.std.specs.List.{AllByRecursion}
use Rattle.rom_model.specs.VecSpace.{words_of_space}
use Rattle.rom_blob_region.specs.State.{BlobState}
use Rattle.rom_blob_region.specs.Region.{BlobContents}
use Rattle.rom_blob_carry.specs.Elements.{EntryFits, entries_in, sized_in}
use Rattle.rom_blob_carry.proofs.elements.sized.collect_sized.Given as goal

-- the elements of the keys so far
abbrev pub invariant-loop-key : goal.invariant-loop-key
invariant-loop-key l = record {
  image : words_of_space l.space ≡ words_of_space l.fn.space;
  so_far : (s : BlobState) (k : ℕ) → BlobContents l.order (words_of_space l.fn.space) s k → entries_in l.into.items ≡ entries_in l.fn.into.items ++ sized_in l.units s (take l.key-index l.keys);
  fit : AllByRecursion EntryFits (entries_in l.fn.into.items) → AllByRecursion EntryFits (entries_in l.into.items);
}
