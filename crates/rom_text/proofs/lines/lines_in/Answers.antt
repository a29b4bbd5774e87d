use Rattle.std.proofs.Common.{arith, length}
use Rattle.rom_text.proofs.Steps.{more_left, read_all}
use Rattle.rom_text.proofs.lines.lines_in.Goals as goal

pub returns-clause-read : goal.returns-clause-read
returns-clause-read g c = read_all g.L.Lines.Reads c.args.bytes.now c.loop-start.start c.loop-start.lines.items c.loop-start.invariant.read c.loop-start-test.false

pub returns-then-len-eq-MAX_LINES-clause-too_long :
    goal.returns-then-len-eq-MAX_LINES-clause-too_long
returns-then-len-eq-MAX_LINES-clause-too_long g c = λ _. more_left c.args.bytes.now c.loop-start.start (length c.loop-start.lines.items)
    c.loop-start-test.true (omega (arith, c.len.ensures, c.if-len-eq-MAX_LINES.true)) c.loop-start.invariant.many
