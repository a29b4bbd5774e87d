use Rattle.std.specs.List.{flat_map}
use Rattle.rom_script.specs.Trio.{answer_text}
use Rattle.rom_text.proofs.Prints.{printed, stopped, prints_stopped, stopped_first, stopped_second, both_printed}
use Rattle.rom_script.proofs.stat.print_before.Goals as goal

pub returns-in_err-print_pieces : goal.returns-in_err-print_pieces
returns-in_err-print_pieces g c =
    let o = g.O.Sink.shown in
    record {
      prints = prints_stopped o _ _ _ c.from_residual.result _ c.from_residual.ensures.1
          (stopped_first o _ _ (flat_map (λ piece. piece.now) c.args.pieces.now) _ (stopped o _ _ _ _ c.in_err-print_pieces.ensures.prints));
    }

pub returns-in_err-print : goal.returns-in_err-print
returns-in_err-print g c =
    let o = g.O.Sink.shown in
    record {
      prints = prints_stopped o _ _ _ c.from_residual-in_err-print.result _ c.from_residual-in_err-print.ensures.1
          (stopped_second o _ _ _ (flat_map (λ piece. piece.now) c.args.pieces.now) _ (printed o _ _ _ _ c.in_ok-print_pieces.ensures.prints)
          (stopped_first o _ _ (answer_text c.args.answer.now) _ (stopped o _ _ _ _ c.in_err-print.ensures.prints)));
    }

pub returns : goal.returns
returns g c =
    let o = g.O.Sink.shown in
    record {
      prints = both_printed o _ _ _ c.print_text.result (flat_map (λ piece. piece.now) c.args.pieces.now) _ (printed o _ _ _ _ c.in_ok-print_pieces.ensures.prints)
          (both_printed o _ _ _ c.print_text.result (answer_text c.args.answer.now) _ (printed o _ _ _ _ c.in_ok-print.ensures.prints) c.print_text.ensures.prints);
    }
