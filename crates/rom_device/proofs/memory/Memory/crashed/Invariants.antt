use Rattle.std.proofs.Common.{◌≡◌, ℕ, ◌<◌, reverse, slice_index, vec_len}
use Rattle.rom_device.specs.Choice.{picked}
use Rattle.rom_device.proofs.memory.Memory.crashed.Given as goal

abbrev pub invariant-loop-at : goal.invariant-loop-at
invariant-loop-at l = record {
  as_long : vec_len l.words ≡ vec_len l.start;
  each : (k : ℕ) → k < l.at → slice_index l.words.items k ≡ picked l.start.items (reverse l.made.items) k (slice_index l.choice k);
}
