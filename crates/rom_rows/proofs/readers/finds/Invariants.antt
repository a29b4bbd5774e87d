use Rattle.std.specs.Prelude.{IsTrue}
use Rattle.rom_lr.specs.Seats.{IsSeatOf}
use Rattle.rom_rule.specs.Views.{is_reading}
use Rattle.rom_rows.proofs.readers.finds.Given as goal

abbrev pub invariant-loop-at : goal.invariant-loop-at
invariant-loop-at l = IsSeatOf l.shared l.seat × IsTrue (is_reading l.seat.token.me.0.position)
