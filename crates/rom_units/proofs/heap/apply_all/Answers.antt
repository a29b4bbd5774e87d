use Rattle.std.proofs.Common.{◌+◌, arith}
use Rattle.rom_model.specs.State.{empty}
use Rattle.rom_units.proofs.heap.apply_all.Goals as goal

pub loop-call-init : goal.loop-call-init
loop-call-init c = (empty, 0, c.requires.region, omega arith, omega arith)

pub apply-requires-clause-region : goal.apply-requires-clause-region
apply-requires-clause-region c =
    let i = c.loop-call.invariant in
    (i.0, i.1, i.2, omega (arith, i.3, i.4))

pub loop-call-preserved : goal.loop-call-preserved
loop-call-preserved c =
    let i = c.loop-call.invariant in
    let done = c.apply.ensures.done i.0 i.1 i.2 in
    (_, i.1 + 1, done.1, omega (arith, i.3), omega (arith, c.loop-call-test.true, c.requires.few))

pub apply-requires-2-clause-region : goal.apply-requires-2-clause-region
apply-requires-2-clause-region c =
    let i = c.loop-call.invariant in
    (i.0, i.1, i.2, omega (arith, i.3, i.4))
