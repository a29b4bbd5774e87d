use Rattle.std.proofs.Common.{[], ◌∷◌, codes, decimal, subst}
use Rattle.rom_text.specs.Streams.{Prints}
use Rattle.rom_text.proofs.Prints.{printed, stopped, prints_stopped, stopped_first, both_printed}
use Rattle.rom_text.proofs.RunText.{placed}
use Rattle.rom_text.proofs.report.print_read.Goals as goal

pub returns-in_err-print-clause-prints : goal.returns-in_err-print-clause-prints
returns-in_err-print-clause-prints g c =
    let o = g.S.Sink.shown in
    prints_stopped o _ _ _ c.from_residual.result _ c.from_residual.ensures.1
    (stopped_first o _ _ _ (10 ∷ []) (stopped_first o _ _ _ (decimal c.args.front) (stopped_first o _ _ _ (codes " #") (stopped o _ _ _ _ c.in_err-print.ensures.prints))))

pub returns-clause-prints : goal.returns-clause-prints
returns-clause-prints g c =
    let o = g.S.Sink.shown in
    subst (λ t. Prints o c.args.out.now c.print_place.new.out c.print_place.result t) (placed (g.A.Print.shown.text c.args.answer.now) (codes " #") (decimal c.args.front))
    (both_printed o _ _ _ c.print_place.result _ _ (printed o _ _ _ _ c.in_ok-print.ensures.prints) c.print_place.ensures.prints)
