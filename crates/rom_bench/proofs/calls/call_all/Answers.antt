use Rattle.std.proofs.Common.{arith}
use Rattle.rom_bench.proofs.calls.call_all.Goals as goal

pub call-requires : goal.call-requires
call-requires c = record { region = (c.loop-number.number, c.loop-number.invariant, omega (arith, c.loop-number-test.true, c.requires.most)) }

pub loop-number-preserved : goal.loop-number-preserved
loop-number-preserved c = c.call.ensures.region c.loop-number.number c.loop-number.invariant

pub returns : goal.returns
returns c =
    let holds = c.loop-number.invariant in
    record { region = record { state = holds.state; count = holds.count; contents = holds.contents; within = omega (arith, holds.within, c.requires.forward, c.loop-number.auto.number-end) } }
