use Rattle.std.proofs.Common.{◌≡◌, ◌++◌, ◌∙◌, codes, decimal, subst}
use Rattle.rom_text.specs.Streams.{Prints}
use Rattle.rom_text.specs.Text.{line_text}
use Rattle.rom_text.proofs.Prints.{Printed, Stopped, printed, stopped, prints_stopped, stopped_first, both_printed}
use Rattle.rom_script.proofs.Summaries.{drill_line, sums_line}
use Rattle.rom_script.proofs.summary.print_sums.Goals as goal

pub returns-in_err-print_pieces : goal.returns-in_err-print_pieces
returns-in_err-print_pieces g c =
    let o = g.O.Sink.shown in
    let s = c.args.told.now in
    let start : c.format-start.result.now ≡ decimal s.start = c.format-start.ensures.text in
    let callers : c.format-callers.result.now ≡ decimal s.callers = c.format-callers.ensures.text in
    let calls : c.format-calls.result.now ≡ decimal s.calls = c.format-calls.ensures.text in
    let first = drill_line c.format-start.result.now c.format-callers.result.now c.format-calls.result.now
    ∙ (λ i. line_text (codes "drill " ++ start i ++ codes " callers " ++ callers i ++ codes " calls " ++ calls i)) in
    let second = line_text (codes "enqueued " ++ decimal s.enqueued ++ codes " dequeued " ++ decimal s.dequeued) in
    record {
      prints = prints_stopped o _ _ _ c.from_residual.result _ c.from_residual.ensures.1
          (stopped_first o _ _ _ second (subst (λ t. Stopped o c.args.out.now c.print_pieces.new.out t) first (stopped o _ _ _ _ c.in_err-print_pieces.ensures.prints)));
    }

pub returns : goal.returns
returns g c =
    let o = g.O.Sink.shown in
    let s = c.args.told.now in
    let start : c.format-start.result.now ≡ decimal s.start = c.format-start.ensures.text in
    let callers : c.format-callers.result.now ≡ decimal s.callers = c.format-callers.ensures.text in
    let calls : c.format-calls.result.now ≡ decimal s.calls = c.format-calls.ensures.text in
    let into : c.format-enqueued.result.now ≡ decimal s.enqueued = c.format-enqueued.ensures.text in
    let out_of : c.format-dequeued.result.now ≡ decimal s.dequeued = c.format-dequeued.ensures.text in
    let first = drill_line c.format-start.result.now c.format-callers.result.now c.format-calls.result.now
    ∙ (λ i. line_text (codes "drill " ++ start i ++ codes " callers " ++ callers i ++ codes " calls " ++ calls i)) in
    let second = sums_line c.format-enqueued.result.now c.format-dequeued.result.now
    ∙ (λ i. line_text (codes "enqueued " ++ into i ++ codes " dequeued " ++ out_of i)) in
    record {
      prints = both_printed o _ _ _ c.print_pieces-2.result _ _
          (subst (λ t. Printed o c.args.out.now c.print_pieces.new.out t) first (printed o _ _ _ _ c.in_ok-print_pieces.ensures.prints))
          (subst (λ t. Prints o c.print_pieces.new.out c.print_pieces-2.new.out c.print_pieces-2.result t) second c.print_pieces-2.ensures.prints);
    }
