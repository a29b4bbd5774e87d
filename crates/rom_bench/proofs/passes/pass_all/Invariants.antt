use Rattle.std.specs.Prelude.{All}
use Rattle.rom_combine.specs.AtRest.{IsCoreOf}
use Rattle.rom_lr.specs.Seats.{IsSeatOf}
use Rattle.rom_bench.proofs.passes.pass_all.Given as goal

abbrev pub invariant-loop-round : goal.invariant-loop-round
invariant-loop-round g l = IsCoreOf l.shared l.core × All (λ p. IsSeatOf l.shared p.seat) l.posters
