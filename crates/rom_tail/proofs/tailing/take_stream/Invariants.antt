use Rattle.rom_tail.specs.Tailed.{HasGoneOn}
use Rattle.rom_tail.specs.Waiting.{waits_in}
use Rattle.rom_tail.proofs.tailing.take_stream.Given as goal

-- no stop was among the frames so far
abbrev pub invariant-loop : goal.invariant-loop
invariant-loop g l = HasGoneOn g.S.Source.shown l.fn.chaser.count l.fn.stream (waits_in l.tailing.intake) l.stream l.chaser l.tailing.tally
