use Rattle.std.proofs.Common.{◌≡◌, ◌<◌, ℕ, ◌+◌, length, slice_index}
use Rattle.rom_device.specs.Device.{OnlyReads}
use Rattle.rom_device.specs.Laid.{word_among}
use Rattle.rom_device.specs.Memory.{shown_by_memory}
use Rattle.rom_device.proofs.memory_medium.MemoryMedium.read_at.Given as goal

-- the words so far were read
abbrev pub invariant-loop-index : goal.invariant-loop-index
invariant-loop-index l = record {
  len : length l.into ≡ length l.fn.into;
  words : (k : ℕ) → k < l.index → word_among l.into k ≡ slice_index (shown_by_memory.words l.fn.self) (l.at + k);
  only : OnlyReads shown_by_memory l.fn.self l.self;
  faults : shown_by_memory.faults l.self ≡ shown_by_memory.faults l.fn.self;
}
