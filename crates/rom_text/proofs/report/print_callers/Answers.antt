use Rattle.std.proofs.Common.{map, drop, ◌+◌, subst}
use Rattle.std.specs.List.{AllByRecursion}
use Rattle.rom_text.specs.Text.{ResultFits, callers_text, texts_of}
use Rattle.rom_text.proofs.Prints.{Printed, Stopped, printed, stopped, prints_stopped, stopped_first, stopped_second, printed_both}
use Rattle.rom_text.proofs.RunText.{caller_text, callers_around, one_caller_more, one_of_type_more}
use Rattle.rom_text.proofs.report.print_callers.Goals as goal

pub returns-in_err-print_caller-clause-prints : goal.returns-in_err-print_caller-clause-prints
returns-in_err-print_caller-clause-prints g c =
    let o = g.S.Sink.shown in
    let texts = texts_of g.P.PrintReplies.shown g.O.Answer.Print.shown in
    let own = c.index-results-i.result in
    prints_stopped o _ _ _ c.from_residual.result _ c.from_residual.ensures.1
    (subst (λ t. Stopped o c.args.out.now c.print_caller.new.out t) (callers_around texts (λ v. v.items) c.args.results.now c.loop-i.i own c.loop-i-test.true)
    (stopped_second o _ _ _ _ _ c.loop-i.invariant.printed
    (stopped_first o _ _ _ (callers_text texts (c.loop-i.i + 1 + 1) (map (λ v. v.items) (drop (c.loop-i.i + 1) c.args.results.now)))
    (subst (λ v. Stopped o c.loop-i.out c.print_caller.new.out (caller_text texts (c.loop-i.i + 1) v.items)) c.index-results-i.is
    (stopped o _ _ _ _ c.in_err-print_caller.ensures.prints)))))

pub loop-i-preserved : goal.loop-i-preserved
loop-i-preserved g c =
    let o = g.S.Sink.shown in
    let texts = texts_of g.P.PrintReplies.shown g.O.Answer.Print.shown in
    let own = c.index-results-i.result in
    record {
      printed = subst (λ t. Printed o c.args.out.now c.print_caller.new.out t) (one_caller_more texts (λ v. v.items) c.args.results.now c.loop-i.i own c.loop-i-test.true)
          (printed_both o _ _ _ _ _ c.loop-i.invariant.printed
          (subst (λ v. Printed o c.loop-i.out c.print_caller.new.out (caller_text texts (c.loop-i.i + 1) v.items)) c.index-results-i.is
          (printed o _ _ _ _ c.in_ok-print_caller.ensures.prints)));
      of_type = one_of_type_more texts (λ v. v.items) c.args.results.now c.loop-i.i own c.loop-i-test.true c.loop-i.invariant.of_type
          (subst (λ v. AllByRecursion (ResultFits texts) v.items) c.index-results-i.is c.in_ok-print_caller.ensures.of_type);
    }
