use Rattle.std.proofs.Common.{ℕ, ◌+◌, ◌≤◌}
use Rattle.rom_model.specs.VecSpace.{words_of_space}
use Rattle.rom_model.specs.State.{State}
use Rattle.rom_model.specs.Region.{Contents}
use Rattle.rom_units.proofs.heap.filled.Given as goal

abbrev pub invariant-loop-key : goal.invariant-loop-key
invariant-loop-key l = (s : State) × (k : ℕ) × Contents 16 (words_of_space l.space) s k × (k ≤ l.key + 1)
