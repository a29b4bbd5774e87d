use Rattle.std.proofs.Common.{◌-◌, ◌++◌, ◌∙◌, ap, sym, arith, codes, length, length-append, take}
use Rattle.std.specs.List.{flat_map}
use Rattle.rom_rebuild.specs.Elements.{elements_in}
use Rattle.rom_rebuild.specs.Lines.{behind_text, element_line, span}
use Rattle.rom_rebuild.proofs.Spans.{next_text}
use Rattle.rom_rebuild.proofs.group.behind_len.Goals as goal

pub loop-index-preserved : goal.loop-index-preserved
loop-index-preserved c =
    let es = elements_in c.args.elements.now in
    let i = c.loop-index.index in
    let h = c.loop-index.invariant in
    let before = take (i - c.args.from) (span c.args.from c.args.to es) in
    let more = ap length (ap (λ e. flat_map behind_text before ++ behind_text e) (sym (c.at.ensures c.at.result)) ∙ next_text c.args.from c.args.to i es c.at.result c.requires.within h.from c.loop-index-test.true) in
    record {
      from = omega (arith, h.from);
      total_is = omega (arith, h.total_is, c.element_len.ensures.len, length-append (flat_map behind_text before) (behind_text c.at.result), length-append (codes " ; ") (element_line c.at.result), more);
      most = omega (arith, h.most, c.element_len.ensures.most, h.from);
    }
