use Rattle.std.proofs.Common.{◌<◌, length, arith, sym, subst, slice_get}
use Rattle.std.proofs.lemmas.Option.{get_or_from_slice_get}
use Rattle.rom_text.specs.Text.{ResultFits, line_text, result_text, texts_of}
use Rattle.rom_text.proofs.Prints.{Printed, Stopped, printed, stopped, prints_stopped, stopped_in, printed_both}
use Rattle.rom_text.proofs.RunText.{all_more, by_some, found_at, text_more}
use Rattle.rom_text.proofs.report.print_results.Goals as goal

pub returns-in_err-print_line-clause-prints : goal.returns-in_err-print_line-clause-prints
returns-in_err-print_line-clause-prints g c =
    let o = g.S.Sink.shown in
    let texts = texts_of g.P.PrintReplies.shown g.O.Answer.Print.shown in
    let items = c.args.results.now.items in
    let i = c.loop-i.i in
    let lt : i < length items = omega (arith, c.loop-i-test.true, c.len-i-end.ensures) in
    let found = found_at items i lt in
    prints_stopped o _ _ _ c.from_residual.result _ c.from_residual.ensures.1
    (stopped_in o (λ told. line_text (result_text texts told)) _ _ _ items i found.0 lt c.loop-i.invariant.printed
    (subst (λ told. Stopped o c.loop-i.out c.print_line.new.out (line_text (result_text texts told))) (sym (get_or_from_slice_get items i found.0 found.0 found.1))
    (stopped o _ _ _ _ (by_some _ (slice_get items i) found.0 found.1 c.in_err-print_line.ensures.prints))))

pub loop-i-preserved : goal.loop-i-preserved
loop-i-preserved g c =
    let o = g.S.Sink.shown in
    let texts = texts_of g.P.PrintReplies.shown g.O.Answer.Print.shown in
    let items = c.args.results.now.items in
    let i = c.loop-i.i in
    let lt : i < length items = omega (arith, c.loop-i-test.true, c.len-i-end.ensures) in
    let found = found_at items i lt in
    record {
      printed = subst (λ t. Printed o c.args.out.now c.print_line.new.out t) (text_more items i found.0 found.1 (λ told. line_text (result_text texts told)))
          (printed_both o _ _ _ _ _ c.loop-i.invariant.printed (printed o _ _ _ _ (by_some _ (slice_get items i) found.0 found.1 c.in_ok-print_line.ensures.prints)));
      of_type = all_more items i found.0 found.1 (ResultFits texts) c.loop-i.invariant.of_type (by_some _ (slice_get items i) found.0 found.1 c.in_ok-print_line.ensures.of_type);
    }
