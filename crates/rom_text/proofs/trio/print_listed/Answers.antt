use Rattle.rom_text.specs.Trio.{next_text}
use Rattle.rom_text.proofs.Prints.{stopped, prints_stopped, stopped_in}
use Rattle.rom_text.proofs.trio.print_listed.Goals as goal

pub returns-in_err-print_next-clause-prints : goal.returns-in_err-print_next-clause-prints
returns-in_err-print_next-clause-prints g c =
    let o = g.O.Sink.shown in
    prints_stopped o _ _ _ c.from_residual.result _ c.from_residual.ensures.1
    (stopped_in o next_text _ _ _ c.args.replies.now c.loop-reply.reply-index _ c.loop-reply-test.true c.loop-reply.invariant.printed (stopped o _ _ _ _ c.in_err-print_next.ensures.prints))
