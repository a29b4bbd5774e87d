use Rattle.rom_script.specs.Trio.{answer_text}
use Rattle.rom_text.proofs.Prints.{printed, stopped, prints_stopped, stopped_first, both_printed}
use Rattle.rom_script.proofs.summary.print_answer_line.Goals as goal

pub returns-in_err-print : goal.returns-in_err-print
returns-in_err-print g c =
    let o = g.O.Sink.shown in
    record {
      prints = prints_stopped o _ _ _ c.from_residual.result _ c.from_residual.ensures.1
          (stopped_first o _ _ (answer_text c.args.answer.now) _ (stopped o _ _ _ _ c.in_err-print.ensures.prints));
    }

pub returns : goal.returns
returns g c =
    let o = g.O.Sink.shown in
    record { prints = both_printed o _ _ _ c.print_text.result (answer_text c.args.answer.now) _ (printed o _ _ _ _ c.in_ok-print.ensures.prints) c.print_text.ensures.prints }
