use Rattle.std.proofs.Common.{◌≡◌, ◌+◌, ◌<◌, ℕ, length, slice_index}
use Rattle.rom_model.specs.Faults.{Adds}
use Rattle.rom_device.specs.Device.{OnlyReads}
use Rattle.rom_device.specs.Memory.{shown_by_memory, words_of_memory, reads_from}
use Rattle.rom_device.proofs.Listing.{SoFar}
use Rattle.rom_device.proofs.memory.MemoryDevice.read_words.Given as goal

-- the words so far were read
abbrev pub invariant-loop-index : goal.invariant-loop-index
invariant-loop-index l = record {
  len : length l.into ≡ length l.fn.into;
  read : (k : ℕ) → k < l.index → slice_index l.into k ≡ slice_index (words_of_memory l.fn.self) (l.fn.at + k);
  only : OnlyReads shown_by_memory l.fn.self l.self;
  reads_made : Adds l.index (shown_by_memory.reads l.fn.self) (shown_by_memory.reads l.self);
  faults : shown_by_memory.faults l.self ≡ shown_by_memory.faults l.fn.self;
  listed : SoFar (reads_from l.fn.at (length l.fn.into)) l.index l.fn.self l.self;
}
