use Rattle.std.proofs.Common.{◌-◌, [], ◌∙◌, ap, sym, subst, arith, get_or}
use Rattle.rom_carry.specs.Scripts.{between}
use Rattle.rom_carry.proofs.Carrying.{line_at, next_line}
use Rattle.rom_carry.proofs.Lines.{between_length}
use Rattle.rom_text.specs.Text.{line_text}
use Rattle.rom_text.proofs.Prints.{Printed, Stopped, printed, stopped, prints_stopped, printed_both, stopped_in}
use Rattle.rom_blob_carry.specs.Lines.{lines_in}
use Rattle.rom_blob_carry.proofs.Texts.{line_there, lines_many}
use Rattle.rom_blob_carry.proofs.lines.BlobElementsWritten.print_lines.Goals as goal

pub returns-in_err-print_line : goal.returns-in_err-print_line
returns-in_err-print_line g c =
    let o = g.K.Sink.shown in
    let kept = c.args.self.now.kept.items in
    let lines = lines_in c.args.self.now in
    let from = c.args.from in
    let to = c.args.to in
    let i = c.loop-index.index in
    let h = c.loop-index.invariant in
    let there = line_there kept i c.index-kept-index.result [] (omega (arith, c.loop-index-test.true, c.requires.within, lines_many kept)) (ap (λ ks. get_or ks i c.index-kept-index.result) (sym c.kept.ensures) ∙ sym c.index-kept-index.is) in
    let here = line_at from to i lines [] h.from c.loop-index-test.true ∙ there in
    record {
      prints = prints_stopped o _ _ _ c.from_residual.result _ c.from_residual.ensures.1
          (stopped_in o line_text _ _ _ (between from to lines) (i - from) [] (omega (arith, between_length from to lines c.requires.order c.requires.within, h.from, c.loop-index-test.true)) h.printed
          (subst (λ l. Stopped o c.loop-index.out c.print_line.new.out (line_text l)) (sym here) (stopped o _ _ _ _ c.in_err-print_line.ensures.prints)));
    }

pub loop-index-preserved : goal.loop-index-preserved
loop-index-preserved g c =
    let o = g.K.Sink.shown in
    let kept = c.args.self.now.kept.items in
    let lines = lines_in c.args.self.now in
    let from = c.args.from in
    let to = c.args.to in
    let i = c.loop-index.index in
    let h = c.loop-index.invariant in
    let there = line_there kept i c.index-kept-index.result [] (omega (arith, c.loop-index-test.true, c.requires.within, lines_many kept)) (ap (λ ks. get_or ks i c.index-kept-index.result) (sym c.kept.ensures) ∙ sym c.index-kept-index.is) in
    record {
      from = omega (arith, h.from);
      printed = subst (λ t. Printed o c.args.out.now c.print_line.new.out t) (next_line from to i lines [] c.requires.within h.from c.loop-index-test.true)
          (printed_both o _ _ _ _ _ h.printed (subst (λ l. Printed o c.loop-index.out c.print_line.new.out (line_text l)) (sym there) (printed o _ _ _ _ c.in_ok-print_line.ensures.prints)));
    }
