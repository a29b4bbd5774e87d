use Rattle.std.proofs.Common.{◌+◌, arith}
use Rattle.rom_model.specs.State.{empty}
use Rattle.rom_units.proofs.renew.grown.Goals as goal

pub loop-key-init : goal.loop-key-init
loop-key-init c = (empty, 0, c.in_ok-space.ensures.made, omega arith)

pub apply-requires-clause-region : goal.apply-requires-clause-region
apply-requires-clause-region c =
    let i = c.loop-key.invariant in
    (i.0, i.1, i.2, omega (arith, i.3, c.loop-key-test.true, c.requires.few))

pub loop-key-preserved : goal.loop-key-preserved
loop-key-preserved c =
    let i = c.loop-key.invariant in
    let done = c.apply.ensures.done i.0 i.1 i.2 in
    (_, i.1 + 1, done.1, omega (arith, i.3))

pub returns : goal.returns
returns c =
    let i = c.loop-key.invariant in
    record { region = (i.0, i.1, i.2, omega (arith, i.3, c.requires.few)) }
