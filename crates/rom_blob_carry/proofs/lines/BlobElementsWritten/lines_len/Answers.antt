use Rattle.std.proofs.Common.{◌-◌, [], ◌∙◌, ap, sym, arith, take, length, length-append, get_or}
use Rattle.rom_carry.specs.Scripts.{between, script_of}
use Rattle.rom_carry.proofs.Carrying.{next_line}
use Rattle.rom_text.specs.Text.{line_text}
use Rattle.rom_blob_carry.specs.Lines.{lines_in}
use Rattle.rom_blob_carry.proofs.Texts.{line_there, lines_many}
use Rattle.rom_blob_carry.proofs.lines.BlobElementsWritten.lines_len.Goals as goal

pub loop-index-preserved : goal.loop-index-preserved
loop-index-preserved c =
    let kept = c.args.self.now.kept.items in
    let lines = lines_in c.args.self.now in
    let from = c.args.from in
    let to = c.args.to in
    let i = c.loop-index.index in
    let h = c.loop-index.invariant in
    let there = line_there kept i c.index-kept-index.result [] (omega (arith, c.loop-index-test.true, c.requires.within, lines_many kept)) (ap (λ ks. get_or ks i c.index-kept-index.result) (sym c.kept.ensures) ∙ sym c.index-kept-index.is) in
    let more = ap length (next_line from to i lines [] c.requires.within h.from c.loop-index-test.true) in
    record {
      from = omega (arith, h.from);
      total_is = omega (arith, h.total_is, c.line_len-total.ensures.len, ap (λ l. length (line_text l)) there, length-append (script_of (take (i - from) (between from to lines))) (line_text (get_or lines i [])), more);
      most = omega (arith, h.most, c.line_len-total.ensures.most, h.from);
    }
