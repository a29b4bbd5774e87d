use Rattle.std.proofs.Common.{map}
use Rattle.rom_text.specs.Text.{callers_text, texts_of}
use Rattle.rom_text.proofs.Prints.{printed, stopped, prints_stopped, stopped_first, both_printed}
use Rattle.rom_text.proofs.RunText.{counted}
use Rattle.rom_text.proofs.report.print_whole.Goals as goal

pub returns-in_err-print_callers-clause-prints : goal.returns-in_err-print_callers-clause-prints
returns-in_err-print_callers-clause-prints g c =
    let o = g.S.Sink.shown in
    prints_stopped o _ _ _ c.from_residual.result _ c.from_residual.ensures.1
    (stopped_first o _ _ _ (counted c.args.count) (stopped o _ _ _ _ c.in_err-print_callers.ensures.prints))

pub returns-clause-prints : goal.returns-clause-prints
returns-clause-prints g c =
    let o = g.S.Sink.shown in
    both_printed o _ _ _ c.print_pieces.result (callers_text (texts_of g.P.PrintReplies.shown g.O.Answer.Print.shown) 1 (map (λ v. v.items) c.args.results.now)) (counted c.args.count)
    (printed o _ _ _ _ c.in_ok-print_callers.ensures.prints) (rw (← c.format.ensures.text) c.print_pieces.ensures.prints)
