use Rattle.std.proofs.Common.{◌-◌, ◌++◌, ◌∙◌, ap, sym, subst, arith, take}
use Rattle.std.specs.List.{flat_map}
use Rattle.rom_rebuild.specs.Elements.{elements_in}
use Rattle.rom_rebuild.specs.Lines.{behind_text, span}
use Rattle.rom_rebuild.proofs.Spans.{element_at, next_text, span_length}
use Rattle.rom_text.proofs.Prints.{Printed, Stopped, printed, stopped, prints_stopped, printed_both, stopped_in}
use Rattle.rom_rebuild.proofs.group.print_behind.Goals as goal

pub returns-in_err-print_element : goal.returns-in_err-print_element
returns-in_err-print_element g c =
    let o = g.O.Sink.shown in
    let es = elements_in c.args.elements.now in
    let i = c.loop-index.index in
    let h = c.loop-index.invariant in
    let here = element_at c.args.from c.args.to i es c.at.result h.from c.loop-index-test.true ∙ c.at.ensures c.at.result in
    let long = span_length c.args.from c.args.to es c.requires.order c.requires.within in
    record {
      prints = prints_stopped o _ _ _ c.from_residual.result _ c.from_residual.ensures.1
          (stopped_in o behind_text _ _ _ (span c.args.from c.args.to es) (i - c.args.from) c.at.result (omega (arith, long, h.from, c.loop-index-test.true)) h.printed
          (subst (λ e. Stopped o c.loop-index.out c.print_element.new.out (behind_text e)) (sym here) (stopped o _ _ _ _ c.in_err-print_element.ensures.prints)));
    }

pub loop-index-preserved : goal.loop-index-preserved
loop-index-preserved g c =
    let o = g.O.Sink.shown in
    let es = elements_in c.args.elements.now in
    let i = c.loop-index.index in
    let h = c.loop-index.invariant in
    let before = take (i - c.args.from) (span c.args.from c.args.to es) in
    let more = ap (λ e. flat_map behind_text before ++ behind_text e) (sym (c.at.ensures c.at.result)) ∙ next_text c.args.from c.args.to i es c.at.result c.requires.within h.from c.loop-index-test.true in
    record {
      from = omega (arith, h.from);
      printed = subst (λ t. Printed o c.args.out.now c.print_element.new.out t) more (printed_both o _ _ _ _ _ h.printed (printed o _ _ _ _ c.in_ok-print_element.ensures.prints));
    }
