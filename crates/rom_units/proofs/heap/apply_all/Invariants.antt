use Rattle.std.proofs.Common.{ℕ, ◌≤◌}
use Rattle.rom_model.specs.VecSpace.{words_of_space}
use Rattle.rom_model.specs.State.{State}
use Rattle.rom_model.specs.Region.{Contents}
use Rattle.rom_units.proofs.heap.apply_all.Given as goal

abbrev pub invariant-loop-call : goal.invariant-loop-call
invariant-loop-call l = (s : State) × (k : ℕ) × Contents 4 (words_of_space l.space) s k × (k ≤ l.call-index) × (l.call-index ≤ 15)
