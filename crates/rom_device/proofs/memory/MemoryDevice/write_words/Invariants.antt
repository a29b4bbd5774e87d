use Rattle.std.proofs.Common.{◌≡◌, ℕ, ◌+◌, ◌<◌, ◌≤◌, slice_index}
use Rattle.rom_model.specs.Faults.{Adds}
use Rattle.rom_model.specs.Space.{ChangesOnly}
use Rattle.rom_device.specs.Device.{Does, WritesMany}
use Rattle.rom_device.specs.Memory.{shown_by_memory, words_of_memory, writes_from}
use Rattle.rom_device.proofs.Listing.{SoFar}
use Rattle.rom_device.proofs.memory.MemoryDevice.write_words.Given as goal

-- the words so far are written, and no others
abbrev pub invariant-loop-index : goal.invariant-loop-index
invariant-loop-index l = record {
  does : Does shown_by_memory (WritesMany l.at l.values) l.fn.self l.self;
  only : ChangesOnly l.at l.index (words_of_memory l.fn.self) (words_of_memory l.self);
  written : (k : ℕ) → k < l.index → slice_index (words_of_memory l.self) (l.at + k) ≡ slice_index l.values k;
  reads : shown_by_memory.reads l.self ≡ shown_by_memory.reads l.fn.self;
  writes_made : Adds l.index (shown_by_memory.writes l.fn.self) (shown_by_memory.writes l.self);
  most_writes : shown_by_memory.writes l.self ≤ shown_by_memory.writes l.fn.self + l.index;
  syncs : shown_by_memory.syncs l.self ≡ shown_by_memory.syncs l.fn.self;
  faults : shown_by_memory.faults l.self ≡ shown_by_memory.faults l.fn.self;
  listed : SoFar (writes_from l.at l.values) l.index l.fn.self l.self;
}
