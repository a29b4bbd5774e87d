use Rattle.rom_model.specs.VecSpace.{words_of_space}
use Rattle.rom_bench.specs.Holds.{HoldsAtMost}
use Rattle.rom_bench.proofs.calls.call_all.Given as goal

abbrev pub invariant-loop-number : goal.invariant-loop-number
invariant-loop-number l = HoldsAtMost (words_of_space l.space) l.number
