use Rattle.std.proofs.Common.{◌-◌, [], ◌++◌, ◌∙◌, ap, sym, subst, arith, take}
use Rattle.rom_carry.proofs.Carrying.{line_at, next_line}
use Rattle.rom_carry.proofs.Lines.{between_length}
use Rattle.rom_carry.specs.Scripts.{between, script_of}
use Rattle.rom_rebuild.specs.Elements.{elements_in}
use Rattle.rom_rebuild.specs.Lines.{element_lines}
use Rattle.rom_rebuild.proofs.Groups.{few_elements, line_of_group, line_some}
use Rattle.rom_text.proofs.Prints.{Printed, Stopped, printed, stopped, prints_stopped, printed_both, stopped_in}
use Rattle.rom_text.specs.Text.{line_text}
use Rattle.rom_rebuild.proofs.lines.print_lines.Goals as goal

pub print_group-requires-clause-within : goal.print_group-requires-clause-within
print_group-requires-clause-within g c = line_some (elements_in c.args.elements.now) c.loop-number.number (omega (arith, c.loop-number-test.true, c.requires.within))

pub print_group-requires-clause-few : goal.print_group-requires-clause-few
print_group-requires-clause-few g c = few_elements (elements_in c.args.elements.now) c.requires.few

pub returns-in_err-print_group : goal.returns-in_err-print_group
returns-in_err-print_group g c =
    let o = g.O.Sink.shown in
    let es = elements_in c.args.elements.now in
    let lines = element_lines es in
    let i = c.loop-number.number in
    let h = c.loop-number.invariant in
    let here = line_at c.args.from c.args.to i lines [] h.from c.loop-number-test.true ∙ line_of_group es i [] (omega (arith, c.loop-number-test.true, c.requires.within)) in
    let long = between_length c.args.from c.args.to lines c.requires.order c.requires.within in
    record {
      prints = prints_stopped o _ _ _ c.from_residual.result _ c.from_residual.ensures.1
          (stopped_in o line_text _ _ _ (between c.args.from c.args.to lines) (i - c.args.from) [] (omega (arith, long, h.from, c.loop-number-test.true)) h.printed
          (subst (λ line. Stopped o c.loop-number.out c.print_group.new.out (line_text line)) (sym here) (stopped o _ _ _ _ c.in_err-print_group.ensures.prints)));
    }

pub loop-number-preserved : goal.loop-number-preserved
loop-number-preserved g c =
    let o = g.O.Sink.shown in
    let es = elements_in c.args.elements.now in
    let lines = element_lines es in
    let i = c.loop-number.number in
    let h = c.loop-number.invariant in
    let before = take (i - c.args.from) (between c.args.from c.args.to lines) in
    let here = line_of_group es i [] (omega (arith, c.loop-number-test.true, c.requires.within)) in
    let more = ap (λ line. script_of before ++ line_text line) (sym here) ∙ next_line c.args.from c.args.to i lines [] c.requires.within h.from c.loop-number-test.true in
    record {
      from = omega (arith, h.from);
      printed = subst (λ t. Printed o c.args.out.now c.print_group.new.out t) more (printed_both o _ _ _ _ _ h.printed (printed o _ _ _ _ c.in_ok-print_group.ensures.prints));
    }
