use Rattle.std.proofs.Common.{◌≡◌, ◌<◌, ℕ, length, slice_index}
use Rattle.rom_device.specs.Ram.{words_of_ram}
use Rattle.rom_copy.proofs.taking.in_memory.Given as goal

-- the words so far stand there
abbrev pub invariant-loop-index : goal.invariant-loop-index
invariant-loop-index l = record {
  as_long : length (words_of_ram l.ram) ≡ length l.words;
  written : (k : ℕ) → k < l.index → slice_index (words_of_ram l.ram) k ≡ slice_index l.words k;
}
