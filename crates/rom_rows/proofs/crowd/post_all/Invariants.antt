use Rattle.rom_rows.specs.Callers.{HasCalls}
use Rattle.rom_rows.proofs.crowd.post_all.Given as goal

abbrev pub invariant-loop-i : goal.invariant-loop-i
invariant-loop-i l = HasCalls l.shared l.i l.i l.seat
