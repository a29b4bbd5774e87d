use Rattle.std.proofs.Common.{◌≡◌, ◌++◌, ◌∙◌, codes, decimal, subst}
use Rattle.rom_text.specs.Streams.{Prints}
use Rattle.rom_text.specs.Text.{line_text}
use Rattle.rom_script.specs.Trio.{answer_text}
use Rattle.rom_text.proofs.Prints.{Stopped, printed, stopped, prints_stopped, stopped_first, both_printed}
use Rattle.rom_script.proofs.Showing.{five_lines}
use Rattle.rom_script.proofs.stat.Sizes.print.Goals as goal

pub returns-in_err-print_before : goal.returns-in_err-print_before
returns-in_err-print_before g c =
    let o = g.O.Sink.shown in
    let s = c.args.self.now in
    let order : c.format-order.result.now ≡ decimal s.order = c.format-order.ensures.text in
    let count : c.format-count.result.now ≡ decimal s.count = c.format-count.ensures.text in
    let free : c.format-free.result.now ≡ decimal s.free = c.format-free.ensures.text in
    let lines = five_lines c.format-order.result.now c.format-count.result.now (answer_text s.sizes) c.format-free.result.now (answer_text s.total)
    ∙ (λ i. line_text (codes "order " ++ order i) ++ line_text (codes "count " ++ count i) ++ line_text (answer_text s.sizes) ++ line_text (codes "free " ++ free i) ++ line_text (answer_text s.total)) in
    record {
      prints = prints_stopped o _ _ _ c.from_residual.result _ c.from_residual.ensures.1
          (subst (λ t. Stopped o c.args.out.now c.print_before.new.out t) lines (stopped_first o _ _ _ _ (stopped o _ _ _ _ c.in_err-print_before.ensures.prints)));
    }

pub returns : goal.returns
returns g c =
    let o = g.O.Sink.shown in
    let s = c.args.self.now in
    let order : c.format-order.result.now ≡ decimal s.order = c.format-order.ensures.text in
    let count : c.format-count.result.now ≡ decimal s.count = c.format-count.ensures.text in
    let free : c.format-free.result.now ≡ decimal s.free = c.format-free.ensures.text in
    let lines = five_lines c.format-order.result.now c.format-count.result.now (answer_text s.sizes) c.format-free.result.now (answer_text s.total)
    ∙ (λ i. line_text (codes "order " ++ order i) ++ line_text (codes "count " ++ count i) ++ line_text (answer_text s.sizes) ++ line_text (codes "free " ++ free i) ++ line_text (answer_text s.total)) in
    record {
      prints = subst (λ t. Prints o c.args.out.now c.print_before-2.new.out c.print_before-2.result t) lines
          (both_printed o _ _ _ c.print_before-2.result _ _ (printed o _ _ _ _ c.in_ok-print_before.ensures.prints) c.print_before-2.ensures.prints);
    }
