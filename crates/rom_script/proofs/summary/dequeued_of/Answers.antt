use Rattle.std.proofs.Common.{◌<◌, ◌+◌, length, take, ap, sym, ◌∙◌, arith}
use Rattle.std.proofs.lemmas.Option.{get_or_from_slice_get}
use Rattle.std.proofs.lemmas.List.Sums.{sum_by_more}
use Rattle.std.specs.List.{sum_by}
use Rattle.rom_script.specs.Drill.{dequeued_by}
use Rattle.rom_script.proofs.summary.dequeued_of.Goals as goal

pub loop-i-preserved : goal.loop-i-preserved
loop-i-preserved c =
    let results = c.args.results.now.items in
    let lt : c.loop-i.i < length results = omega (arith, c.loop-i-test.true, c.len-i-end.ensures) in
    let said = c.at.ensures in
    let value = c.from-sum.ensures ∙ c.dequeued_by.ensures said.line said.told in
    record {
      sum = (λ i. c.loop-i.invariant.sum i + value i)
          ∙ sym (sum_by_more dequeued_by results c.loop-i.i said.line lt ∙ ap (λ r. sum_by dequeued_by (take c.loop-i.i results) + dequeued_by r) (get_or_from_slice_get results c.loop-i.i said.line said.line said.at));
      within = omega (arith, c.from-sum.ensures, c.dequeued_by.type_inv, c.loop-i.invariant.within);
    }
