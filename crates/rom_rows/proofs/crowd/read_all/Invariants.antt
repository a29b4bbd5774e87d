use Rattle.std.proofs.Common.{◌≡◌}
use Rattle.rom_lr.specs.Seats.{IsSeatOf}
use Rattle.rom_rule.specs.declared.views.Position.TheVariants.{Out}
use Rattle.rom_rows.proofs.crowd.read_all.Given as goal

abbrev pub invariant-loop : goal.invariant-loop
invariant-loop l = IsSeatOf l.shared l.seat × (l.seat.token.me.0.position ≡ Out)
