use Rattle.std.proofs.Common.{subst, decimal}
use Rattle.rom_text.specs.Streams.{Prints}
use Rattle.rom_text.proofs.Prints.{Stopped, printed, stopped, prints_stopped, stopped_first, both_printed}
use Rattle.rom_guard.proofs.Telling.{undone_parts}
use Rattle.rom_guard.proofs.told.print_undone.Goals as goal

pub returns-in_err-print_pieces-clause-prints : goal.returns-in_err-print_pieces-clause-prints
returns-in_err-print_pieces-clause-prints g c =
    let o = g.S.Sink.shown in
    let why = g.T.Print.shown.text c.args.why.now in
    prints_stopped o _ _ _ c.from_residual.result _ c.from_residual.ensures.1
    (subst (λ t. Stopped o c.args.out.now c.print_pieces.new.out t) (undone_parts c.format.result.now (decimal c.args.member) why c.format.ensures.text)
    (stopped_first o _ _ _ why (stopped o _ _ _ _ c.in_err-print_pieces.ensures.prints)))

pub returns-clause-prints : goal.returns-clause-prints
returns-clause-prints g c =
    let o = g.S.Sink.shown in
    let why = g.T.Print.shown.text c.args.why.now in
    subst (λ t. Prints o c.args.out.now c.print.new.out c.print.result t) (undone_parts c.format.result.now (decimal c.args.member) why c.format.ensures.text)
    (both_printed o _ _ _ c.print.result _ why (printed o _ _ _ _ c.in_ok-print_pieces.ensures.prints) c.print.ensures.prints)
