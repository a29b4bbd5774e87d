use Rattle.rom_guard.proofs.Many.{IsReadTo}
use Rattle.rom_guard.proofs.codes.read_told_all.Given as goal

abbrev pub invariant-loop-i : goal.invariant-loop-i
invariant-loop-i g l = IsReadTo g.P.Members.shown.told_words 2 l.words l.i
