use Rattle.std.proofs.Common.{◌++◌, codes, subst}
use Rattle.rom_text.specs.Text.{line_text, results_text, texts_of}
use Rattle.rom_text.proofs.Prints.{Printed, Stopped, printed, stopped, prints_stopped, stopped_first, both_printed}
use Rattle.rom_text.proofs.RunText.{numbered}
use Rattle.rom_text.proofs.report.print_caller.Goals as goal

pub returns-in_err-print_pieces-clause-prints : goal.returns-in_err-print_pieces-clause-prints
returns-in_err-print_pieces-clause-prints g c =
    let o = g.S.Sink.shown in
    prints_stopped o _ _ _ c.from_residual.result _ c.from_residual.ensures.1
    (stopped_first o _ _ (numbered c.args.caller) (results_text (texts_of g.P.PrintReplies.shown g.O.Answer.Print.shown) c.args.results.now.items)
    (subst (λ digits. Stopped o c.args.out.now c.print_pieces.new.out (line_text (codes "caller " ++ digits))) c.format.ensures.text (stopped o _ _ _ _ c.in_err-print_pieces.ensures.prints)))

pub returns-clause-prints : goal.returns-clause-prints
returns-clause-prints g c =
    let o = g.S.Sink.shown in
    both_printed o _ _ _ c.print_results.result (numbered c.args.caller) (results_text (texts_of g.P.PrintReplies.shown g.O.Answer.Print.shown) c.args.results.now.items)
    (subst (λ digits. Printed o c.args.out.now c.print_pieces.new.out (line_text (codes "caller " ++ digits))) c.format.ensures.text (printed o _ _ _ _ c.in_ok-print_pieces.ensures.prints))
    c.print_results.ensures.prints
