use Rattle.std.proofs.Common.{◌++◌, codes, decimal}
use Rattle.rom_text.specs.Text.{line_text}
use Rattle.rom_script.specs.Trio.{answer_text}
use Rattle.rom_text.proofs.Prints.{printed, stopped, prints_stopped, stopped_first, printed_both, stopped_second, both_printed}
use Rattle.rom_script.proofs.summary.print_closing.Goals as goal

pub returns-in_err-print_answer_line : goal.returns-in_err-print_answer_line
returns-in_err-print_answer_line g c =
    let o = g.O.Sink.shown in
    let s = c.args.told.now in
    let first = line_text (answer_text s.sizes) in
    let second = line_text (answer_text s.total) in
    let third = line_text (codes "count " ++ decimal s.count) in
    record {
      prints = prints_stopped o _ _ _ c.from_residual.result _ c.from_residual.ensures.1
          (stopped_first o _ _ (first ++ second) third (stopped_first o _ _ first second (stopped o _ _ _ _ c.in_err-print_answer_line.ensures.prints)));
    }

pub returns-in_err-print_answer_line-2 : goal.returns-in_err-print_answer_line-2
returns-in_err-print_answer_line-2 g c =
    let o = g.O.Sink.shown in
    let s = c.args.told.now in
    let first = line_text (answer_text s.sizes) in
    let second = line_text (answer_text s.total) in
    let third = line_text (codes "count " ++ decimal s.count) in
    record {
      prints = prints_stopped o _ _ _ c.from_residual-in_err-print_answer_line-2.result _ c.from_residual-in_err-print_answer_line-2.ensures.1
          (stopped_first o _ _ (first ++ second) third
          (stopped_second o _ _ _ first second (printed o _ _ _ _ c.in_ok-print_answer_line.ensures.prints) (stopped o _ _ _ _ c.in_err-print_answer_line-2.ensures.prints)));
    }

pub returns : goal.returns
returns g c =
    let o = g.O.Sink.shown in
    let s = c.args.told.now in
    let first = line_text (answer_text s.sizes) in
    let second = line_text (answer_text s.total) in
    record {
      prints = both_printed o _ _ _ c.print_pieces.result (first ++ second) _
          (printed_both o _ _ _ first second (printed o _ _ _ _ c.in_ok-print_answer_line.ensures.prints) (printed o _ _ _ _ c.in_ok-print_answer_line-2.ensures.prints))
          (rw (← c.format.ensures.text) c.print_pieces.ensures.prints);
    }
