use Rattle.std.proofs.Common.{◌+◌, sym, ◌∙◌, arith}
use Rattle.rom_script.specs.Drill.{dequeued_of}
use Rattle.rom_script.proofs.Sums.{mapped_more}
use Rattle.rom_script.proofs.summary.sum_dequeued.Goals as goal

pub loop-own-preserved : goal.loop-own-preserved
loop-own-preserved c =
    let value = c.dequeued_of-sum.ensures.sum in
    record {
      sum = (λ i. c.loop-own.invariant.sum i + value i) ∙ sym (mapped_more dequeued_of (λ v. v.items) c.args.results.now c.loop-own.own-index c.own-item.result c.loop-own-test.true c.own-item.is);
      within = omega (arith, c.loop-own.invariant.within, c.dequeued_of-sum.ensures.within);
    }
