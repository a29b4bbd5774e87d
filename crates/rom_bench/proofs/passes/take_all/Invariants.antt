use Rattle.std.specs.Prelude.{All}
use Rattle.rom_lr.specs.Seats.{IsSeatOf}
use Rattle.rom_bench.proofs.passes.take_all.Given as goal

abbrev pub invariant-loop-poster : goal.invariant-loop-poster
invariant-loop-poster l = All (λ p. IsSeatOf l.shared p.seat) l.posters
