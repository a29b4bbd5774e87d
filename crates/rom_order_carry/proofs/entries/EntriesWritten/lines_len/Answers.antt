use Rattle.std.proofs.Common.{◌-◌, ◌++◌, [], map, length, length-append, take, sym, ◌∙◌, ap, arith}
use Rattle.std.proofs.lemmas.List.{length-map}
use Rattle.rom_text.specs.Text.{line_text}
use Rattle.rom_carry.specs.Scripts.{between, script_of}
use Rattle.rom_carry.proofs.Carrying.{next_line}
use Rattle.rom_order_carry.specs.Entries.{entries_in, entry_line}
use Rattle.rom_order_carry.proofs.Lines.{line_of}
use Rattle.rom_order_carry.proofs.entries.EntriesWritten.lines_len.Goals as goal

pub loop-index-preserved : goal.loop-index-preserved
loop-index-preserved c =
    let es = entries_in c.args.self.now in
    let lines = map entry_line es in
    let i = c.loop-index.index in
    let h = c.loop-index.invariant in
    let so_far = script_of (take (i - c.args.from) (between c.args.from c.args.to lines)) in
    let line = line_text (entry_line c.index.result.now) in
    let here = line_of es i c.index.result.now (omega (arith, c.loop-index-test.true, c.requires.within, length-map es entry_line)) (sym c.index.ensures) in
    let more = ap (λ l. so_far ++ line_text l) (sym here) ∙ next_line c.args.from c.args.to i lines [] c.requires.within h.from c.loop-index-test.true in
    record {
      from = omega (arith, h.from);
      total_is = omega (arith, h.total_is, c.line_len-total.ensures.len, length-append so_far line, ap length more);
      most = omega (arith, h.most, c.line_len-total.ensures.most, h.from);
    }
