use Rattle.std.specs.Prelude.{All}
use Rattle.rom_lr.specs.Seats.{IsSeatOf}
use Rattle.rom_bench.proofs.passes.posters_of.Given as goal

abbrev pub invariant-loop-seat : goal.invariant-loop-seat
invariant-loop-seat l = All (λ p. IsSeatOf l.shared p.seat) l.posters.items
