use Rattle.std.proofs.Common.{◌≡◌, ◌<◌, ◌+◌, length, min, sym, ◌∙◌, arith}
use Rattle.std.proofs.lemmas.Option.{get_or_from_slice_get}
use Rattle.rom_script.specs.Drill.{enqueued_by}
use Rattle.rom_script.proofs.Sums.{pair_more, pairs_all}
use Rattle.rom_script.proofs.summary.enqueued_of.Goals as goal

pub loop-i-preserved : goal.loop-i-preserved
loop-i-preserved c =
    let lines = c.args.script.now.items in
    let results = c.args.results.now.items in
    let i = c.loop-i.i in
    let in_lines : i < length lines = omega (arith, c.loop-i-test.true, c.min-i-end.ensures, c.len.ensures, c.len-2.ensures) in
    let in_results : i < length results = omega (arith, c.loop-i-test.true, c.min-i-end.ensures, c.len.ensures, c.len-2.ensures) in
    let asked = c.line.ensures in
    let said = c.at.ensures in
    let value = c.from-sum.ensures ∙ c.enqueued_by.ensures asked.asks said.line asked.line said.told in
    record {
      sum = (λ j. c.loop-i.invariant.sum j + value j)
          ∙ sym (pair_more (λ p. enqueued_by p.0 p.1) lines results i asked.asks said.line in_lines in_results
          (sym (get_or_from_slice_get lines i asked.asks asked.asks asked.at)) (sym (get_or_from_slice_get results i said.line said.line said.at)));
      within = omega (arith, c.from-sum.ensures, c.enqueued_by.type_inv, c.loop-i.invariant.within);
    }

pub returns-clause-sum : goal.returns-clause-sum
returns-clause-sum c =
    let lines = c.args.script.now.items in
    let results = c.args.results.now.items in
    let end : c.loop-i.i ≡ min (length lines) (length results) = omega (arith, c.loop-i-test.false, c.loop-i.auto.i-end, c.min-i-end.ensures, c.len.ensures, c.len-2.ensures) in
    c.loop-i.invariant.sum ∙ pairs_all (λ p. enqueued_by p.0 p.1) lines results c.loop-i.i end
