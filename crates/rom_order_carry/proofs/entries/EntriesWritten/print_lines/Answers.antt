use Rattle.std.proofs.Common.{◌-◌, ◌++◌, [], map, take, sym, ◌∙◌, ap, subst, arith}
use Rattle.std.proofs.lemmas.List.{length-map}
use Rattle.rom_text.specs.Text.{line_text}
use Rattle.rom_text.proofs.Prints.{Printed, Stopped, printed, stopped, prints_stopped, printed_both, stopped_in}
use Rattle.rom_carry.specs.Scripts.{between, script_of}
use Rattle.rom_carry.proofs.Carrying.{line_at, next_line}
use Rattle.rom_carry.proofs.Lines.{between_length}
use Rattle.rom_order_carry.specs.Entries.{entries_in, entry_line}
use Rattle.rom_order_carry.proofs.Lines.{line_of}
use Rattle.rom_order_carry.proofs.entries.EntriesWritten.print_lines.Goals as goal

pub returns-in_err-print_line : goal.returns-in_err-print_line
returns-in_err-print_line g c =
    let o = g.K.Sink.shown in
    let es = entries_in c.args.self.now in
    let lines = map entry_line es in
    let i = c.loop-index.index in
    let h = c.loop-index.invariant in
    let ys = between c.args.from c.args.to lines in
    let here = line_of es i c.index.result.now (omega (arith, c.loop-index-test.true, c.requires.within, length-map es entry_line)) (sym c.index.ensures) in
    let there = line_at c.args.from c.args.to i lines [] h.from c.loop-index-test.true ∙ here in
    record {
      prints = prints_stopped o _ _ _ c.from_residual.result _ c.from_residual.ensures.1
          (stopped_in o line_text _ _ _ ys (i - c.args.from) [] (omega (arith, between_length c.args.from c.args.to lines c.requires.order c.requires.within, h.from, c.loop-index-test.true)) h.printed
          (subst (λ line. Stopped o c.loop-index.out c.print_line.new.out (line_text line)) (sym there) (stopped o _ _ _ _ c.in_err-print_line.ensures.prints)));
    }

pub loop-index-preserved : goal.loop-index-preserved
loop-index-preserved g c =
    let o = g.K.Sink.shown in
    let es = entries_in c.args.self.now in
    let lines = map entry_line es in
    let i = c.loop-index.index in
    let h = c.loop-index.invariant in
    let ys = between c.args.from c.args.to lines in
    let here = line_of es i c.index.result.now (omega (arith, c.loop-index-test.true, c.requires.within, length-map es entry_line)) (sym c.index.ensures) in
    let more = ap (λ line. script_of (take (i - c.args.from) ys) ++ line_text line) (sym here) ∙ next_line c.args.from c.args.to i lines [] c.requires.within h.from c.loop-index-test.true in
    record {
      from = omega (arith, h.from);
      printed = subst (λ t. Printed o c.args.out.now c.print_line.new.out t) more (printed_both o _ _ _ _ _ h.printed (printed o _ _ _ _ c.in_ok-print_line.ensures.prints));
    }
