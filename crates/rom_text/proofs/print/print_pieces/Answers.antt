use Rattle.rom_text.proofs.Prints.{stopped, prints_stopped, stopped_in}
use Rattle.rom_text.proofs.print.print_pieces.Goals as goal

pub returns-in_err-print_text : goal.returns-in_err-print_text
returns-in_err-print_text g c =
    let o = g.O.Sink.shown in
    record {
      prints = prints_stopped o _ _ _ c.from_residual.result _ c.from_residual.ensures.1
          (stopped_in o (λ piece. piece.now) _ _ _ c.args.pieces.now c.loop-piece.piece-index _ c.loop-piece-test.true c.loop-piece.invariant (stopped o _ _ _ _ c.in_err-print_text.ensures.prints));
    }
