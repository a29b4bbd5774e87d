use Rattle.std.proofs.Common.{◌<◌, length, arith, sym, ◌∙◌}
use Rattle.rom_replica.proofs.Passing.{passed}
use Rattle.rom_replica.proofs.ship.caller.Caller.from.Goals as goal

pub loop-at-preserved : goal.loop-at-preserved
loop-at-preserved c =
    let lines = c.args.script.now.items in
    let results = c.args.results.now.items in
    let in_lines : c.loop-at.at < length lines = omega (arith, c.loop-at-test.true, c.if-at-len.true, c.len.ensures, c.len-in-loop-at.ensures) in
    let in_results : c.loop-at.at < length results = omega (arith, c.loop-at-test.true, c.if-at-len.true, c.len.ensures, c.len-in-loop-at.ensures) in
    record { same = passed c.loop-at.at lines results in_lines in_results (sym c.is_done.ensures ∙ c.if-not-is_done.true) ∙ c.loop-at.invariant.same }
