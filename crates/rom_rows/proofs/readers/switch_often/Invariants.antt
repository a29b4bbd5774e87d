use Rattle.rom_lr.specs.Seats.{IsWriterOf}
use Rattle.rom_rows.specs.Untouched.{AtRest}
use Rattle.rom_rows.proofs.readers.switch_often.Given as goal

abbrev pub invariant-loop : goal.invariant-loop
invariant-loop g l = IsWriterOf l.shared l.writer × AtRest l.writer.token.me.0
