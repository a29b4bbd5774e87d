use Rattle.std.proofs.Common.{codes}
use Rattle.rom_text.proofs.Prints.{printed, stopped, prints_stopped, stopped_first, both_printed}
use Rattle.rom_guard.proofs.told.print_next.Goals as goal

pub returns-in_err-print_text-clause-prints : goal.returns-in_err-print_text-clause-prints
returns-in_err-print_text-clause-prints g c =
    let o = g.S.Sink.shown in
    let text = g.T.Print.shown.text c.args.told.now in
    prints_stopped o _ _ _ c.from_residual.result _ c.from_residual.ensures.1 (stopped_first o _ _ (codes " ; ") text (stopped o _ _ _ _ c.in_err-print_text.ensures.prints))

pub returns-clause-prints : goal.returns-clause-prints
returns-clause-prints g c =
    let o = g.S.Sink.shown in
    let text = g.T.Print.shown.text c.args.told.now in
    both_printed o _ _ _ c.print.result (codes " ; ") text (printed o _ _ _ _ c.in_ok-print_text.ensures.prints) c.print.ensures.prints
