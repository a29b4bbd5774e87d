use Rattle.std.proofs.Common.{◌≡◌, ℕ, List}
use Rattle.rom_device.specs.Device.{After, Does, WritesMany}
use Rattle.rom_device.specs.Laid.{firsts, laid, word_among, words_among}
use Rattle.rom_device.specs.Memory.{shown_by_memory}
use Rattle.rom_device.proofs.memory_medium.MemoryMedium.write_at.Given as goal

-- the words so far are handed over
abbrev pub invariant-loop-index : goal.invariant-loop-index
invariant-loop-index l = record {
  does : Does shown_by_memory (WritesMany l.at (firsts (word_among l.bytes) (words_among l.bytes))) l.fn.self l.self;
  faults : shown_by_memory.faults l.self ≡ shown_by_memory.faults l.fn.self;
  written : shown_by_memory.words l.self ≡ laid l.at (word_among l.bytes) l.index (shown_by_memory.words l.fn.self);
  keeps : (i : List ℕ) → shown_by_memory.leaves l.fn.self i → shown_by_memory.leaves l.self i;
  each : (i : List ℕ) → After (WritesMany l.at (firsts (word_among l.bytes) l.index)) (shown_by_memory.leaves l.fn.self) i → shown_by_memory.leaves l.self i;
}
