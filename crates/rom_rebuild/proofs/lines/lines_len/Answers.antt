use Rattle.std.proofs.Common.{◌-◌, [], ◌++◌, ◌∙◌, ap, sym, arith, length, length-append, take}
use Rattle.rom_carry.proofs.Carrying.{next_line}
use Rattle.rom_carry.specs.Scripts.{between, script_of}
use Rattle.rom_rebuild.specs.Elements.{elements_in}
use Rattle.rom_rebuild.specs.Lines.{element_lines, group_at, group_line}
use Rattle.rom_rebuild.proofs.Groups.{few_elements, line_of_group, line_some}
use Rattle.rom_text.specs.Text.{line_text}
use Rattle.rom_rebuild.proofs.lines.lines_len.Goals as goal

pub group_len-total-requires-clause-within : goal.group_len-total-requires-clause-within
group_len-total-requires-clause-within c = line_some (elements_in c.args.elements.now) c.loop-number.number (omega (arith, c.loop-number-test.true, c.requires.within))

pub group_len-total-requires-clause-few : goal.group_len-total-requires-clause-few
group_len-total-requires-clause-few c = few_elements (elements_in c.args.elements.now) c.requires.few

pub loop-number-preserved : goal.loop-number-preserved
loop-number-preserved c =
    let es = elements_in c.args.elements.now in
    let lines = element_lines es in
    let i = c.loop-number.number in
    let h = c.loop-number.invariant in
    let before = take (i - c.args.from) (between c.args.from c.args.to lines) in
    let here = line_of_group es i [] (omega (arith, c.loop-number-test.true, c.requires.within)) in
    let more = ap length (ap (λ line. script_of before ++ line_text line) (sym here) ∙ next_line c.args.from c.args.to i lines [] c.requires.within h.from c.loop-number-test.true) in
    record {
      from = omega (arith, h.from);
      total_is = omega (arith, h.total_is, c.group_len-total.ensures.len, length-append (script_of before) (line_text (group_line (group_at i es))), more);
      most = omega (arith, h.most, c.group_len-total.ensures.most, h.from);
    }
