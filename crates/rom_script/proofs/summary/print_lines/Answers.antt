use Rattle.std.proofs.Common.{◌++◌, codes, decimal, subst}
use Rattle.rom_text.specs.Streams.{Prints}
use Rattle.rom_text.specs.Text.{line_text}
use Rattle.rom_script.specs.Trio.{answer_text}
use Rattle.rom_text.proofs.Prints.{Stopped, printed, stopped, prints_stopped, stopped_first, both_printed}
use Rattle.rom_script.proofs.Summaries.{two_and_three}
use Rattle.rom_script.proofs.summary.print_lines.Goals as goal

pub returns-in_err-print_sums : goal.returns-in_err-print_sums
returns-in_err-print_sums g c =
    let o = g.O.Sink.shown in
    let s = c.args.told.now in
    let lines = two_and_three (line_text (codes "drill " ++ decimal s.start ++ codes " callers " ++ decimal s.callers ++ codes " calls " ++ decimal s.calls))
    (line_text (codes "enqueued " ++ decimal s.enqueued ++ codes " dequeued " ++ decimal s.dequeued)) (line_text (answer_text s.sizes)) (line_text (answer_text s.total)) (line_text (codes "count " ++ decimal s.count)) in
    record {
      prints = prints_stopped o _ _ _ c.from_residual.result _ c.from_residual.ensures.1
          (subst (λ t. Stopped o c.args.out.now c.print_sums.new.out t) lines (stopped_first o _ _ _ _ (stopped o _ _ _ _ c.in_err-print_sums.ensures.prints)));
    }

pub returns : goal.returns
returns g c =
    let o = g.O.Sink.shown in
    let s = c.args.told.now in
    let lines = two_and_three (line_text (codes "drill " ++ decimal s.start ++ codes " callers " ++ decimal s.callers ++ codes " calls " ++ decimal s.calls))
    (line_text (codes "enqueued " ++ decimal s.enqueued ++ codes " dequeued " ++ decimal s.dequeued)) (line_text (answer_text s.sizes)) (line_text (answer_text s.total)) (line_text (codes "count " ++ decimal s.count)) in
    record {
      prints = subst (λ t. Prints o c.args.out.now c.print_closing.new.out c.print_closing.result t) lines
          (both_printed o _ _ _ c.print_closing.result _ _ (printed o _ _ _ _ c.in_ok-print_sums.ensures.prints) c.print_closing.ensures.prints);
    }
