use Rattle.std.proofs.Common.{codes}
use Rattle.rom_text.specs.Trio.{single_text}
use Rattle.rom_text.proofs.Prints.{printed, stopped, prints_stopped, stopped_first, both_printed}
use Rattle.rom_text.proofs.trio.print_next.Goals as goal

pub returns-in_err-print_text-clause-prints : goal.returns-in_err-print_text-clause-prints
returns-in_err-print_text-clause-prints g c =
    let o = g.O.Sink.shown in
    prints_stopped o _ _ _ c.from_residual.result _ c.from_residual.ensures.1 (stopped_first o _ _ (codes " ; ") (single_text c.args.reply.now) (stopped o _ _ _ _ c.in_err-print_text.ensures.prints))

pub returns-clause-prints : goal.returns-clause-prints
returns-clause-prints g c =
    let o = g.O.Sink.shown in
    both_printed o _ _ _ c.print.result (codes " ; ") (single_text c.args.reply.now) (printed o _ _ _ _ c.in_ok-print_text.ensures.prints) c.print.ensures.prints
