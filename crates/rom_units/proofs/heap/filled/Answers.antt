use Rattle.std.proofs.Common.{◌+◌, arith}
use Rattle.rom_model.specs.State.{empty}
use Rattle.rom_units.proofs.heap.filled.Goals as goal

pub loop-key-init : goal.loop-key-init
loop-key-init c =
    let done = c.apply.ensures.done empty 0 c.format.ensures.made in
    (_, 1, done.1, omega arith)

pub apply-requires-in-loop-key-clause-region : goal.apply-requires-in-loop-key-clause-region
apply-requires-in-loop-key-clause-region c =
    let i = c.loop-key.invariant in
    (i.0, i.1, i.2, omega (arith, i.3, c.loop-key-test.true, c.min-key-end.ensures))

pub loop-key-preserved : goal.loop-key-preserved
loop-key-preserved c =
    let i = c.loop-key.invariant in
    let done = c.apply-in-loop-key.ensures.done i.0 i.1 i.2 in
    (_, i.1 + 1, done.1, omega (arith, i.3))

pub returns : goal.returns
returns c =
    let i = c.loop-key.invariant in
    record { region = (i.0, i.1, i.2, omega (arith, i.3, c.loop-key.auto.key-end, c.min-key-end.ensures)) }
