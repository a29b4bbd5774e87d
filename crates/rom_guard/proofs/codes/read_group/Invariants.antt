use Rattle.rom_guard.proofs.Many.{IsReadTo}
use Rattle.rom_guard.proofs.codes.read_group.Given as goal

abbrev pub invariant-loop-i : goal.invariant-loop-i
invariant-loop-i g l = IsReadTo g.P.Members.shown.member_words 4 l.words l.i
