use Rattle.std.proofs.Common.{subst, codes, decimal}
use Rattle.rom_text.specs.Streams.{Prints}
use Rattle.rom_text.proofs.Prints.{printed, stopped, prints_stopped, stopped_first, both_printed}
use Rattle.rom_text.proofs.RunText.{marked}
use Rattle.rom_text.proofs.print.print_answer.Goals as goal

pub returns-in_err-print-clause-prints : goal.returns-in_err-print-clause-prints
returns-in_err-print-clause-prints g c =
    let o = g.O.Sink.shown in
    prints_stopped o _ _ _ c.from_residual.result _ c.from_residual.ensures.1
    (stopped_first o _ _ _ (decimal c.args.front) (stopped_first o _ _ _ (codes " #") (stopped o _ _ _ _ c.in_err-print.ensures.prints)))

pub returns-clause-prints : goal.returns-clause-prints
returns-clause-prints g c =
    let o = g.O.Sink.shown in
    subst (λ t. Prints o c.args.out.now c.print_pieces.new.out c.print_pieces.result t) (marked (g.A.Print.shown.text c.args.answer.now) 35 (decimal c.args.front))
    (both_printed o _ _ _ c.print_pieces.result _ _ (printed o _ _ _ _ c.in_ok-print.ensures.prints) (rw (← c.format.ensures.text) c.print_pieces.ensures.prints))
