use Rattle.std.proofs.Common.{◌+◌, ◌*◌, ◌++◌, sym, subst, arith}
use Rattle.std.specs.List.{flat_map}
use Rattle.rom_rebuild.specs.Elements.{elements_in}
use Rattle.rom_rebuild.specs.Lines.{behind_text, element_line, span}
use Rattle.rom_rebuild.proofs.Groups.{printed_text}
use Rattle.rom_text.proofs.Prints.{Stopped, printed, stopped, prints_stopped, printed_both, stopped_first, stopped_second, both_printed}
use Rattle.rom_text.specs.Streams.{Prints}
use Rattle.rom_rebuild.proofs.group.print_group.Goals as goal

pub returns-in_err-print_element : goal.returns-in_err-print_element
returns-in_err-print_element g c =
    let o = g.O.Sink.shown in
    let es = elements_in c.args.elements.now in
    let one = c.front.result.now ++ element_line c.at.result in
    let two = flat_map behind_text (span (c.args.number * 8 + 1) c.min-to.result es) in
    let text = printed_text c.args.number c.min-to.result es c.front.result.now c.at.result c.requires.within (omega (arith, c.min-to.ensures, c.count.ensures)) c.front.ensures.is (c.at.ensures c.at.result) in
    record {
      prints = prints_stopped o _ _ _ c.from_residual.result _ c.from_residual.ensures.1
          (subst (λ t. Stopped o c.args.out.now c.print_element.new.out t) (sym text) (stopped_first o _ _ (one ++ two) _ (stopped_first o _ _ one two (stopped o _ _ _ _ c.in_err-print_element.ensures.prints))));
    }

pub returns-in_err-print_behind : goal.returns-in_err-print_behind
returns-in_err-print_behind g c =
    let o = g.O.Sink.shown in
    let es = elements_in c.args.elements.now in
    let one = c.front.result.now ++ element_line c.at.result in
    let two = flat_map behind_text (span (c.args.number * 8 + 1) c.min-to.result es) in
    let text = printed_text c.args.number c.min-to.result es c.front.result.now c.at.result c.requires.within (omega (arith, c.min-to.ensures, c.count.ensures)) c.front.ensures.is (c.at.ensures c.at.result) in
    record {
      prints = prints_stopped o _ _ _ c.from_residual-in_err-print_behind.result _ c.from_residual-in_err-print_behind.ensures.1
          (subst (λ t. Stopped o c.args.out.now c.print_behind.new.out t) (sym text) (stopped_first o _ _ (one ++ two) _ (stopped_second o _ _ _ one two (printed o _ _ _ _ c.in_ok-print_element.ensures.prints) (stopped o _ _ _ _ c.in_err-print_behind.ensures.prints))));
    }

pub returns : goal.returns
returns g c =
    let o = g.O.Sink.shown in
    let es = elements_in c.args.elements.now in
    let one = c.front.result.now ++ element_line c.at.result in
    let two = flat_map behind_text (span (c.args.number * 8 + 1) c.min-to.result es) in
    let text = printed_text c.args.number c.min-to.result es c.front.result.now c.at.result c.requires.within (omega (arith, c.min-to.ensures, c.count.ensures)) c.front.ensures.is (c.at.ensures c.at.result) in
    record {
      prints = subst (λ t. Prints o c.args.out.now c.print_text.new.out c.print_text.result t) (sym text)
          (both_printed o _ _ _ c.print_text.result (one ++ two) _ (printed_both o _ _ _ one two (printed o _ _ _ _ c.in_ok-print_element.ensures.prints) (printed o _ _ _ _ c.in_ok-print_behind.ensures.prints)) c.print_text.ensures.prints);
    }
