use Rattle.std.proofs.Common.{◌≡◌, ◌+◌, length, sym, ap, ◌∙◌, decimal}
use Rattle.rom_blob_region.specs.Texts.{bytes_text}
use Rattle.rom_blob_carry.specs.Elements.{entry_of}
use Rattle.rom_blob_carry.proofs.Texts.{line_long, text_long}
use Rattle.rom_blob_carry.proofs.line.line_len.Goals as goal

pub returns-clause-len : goal.returns-clause-len
returns-clause-len c =
    let e = entry_of c.args.kept.now in
    let key : length c.format.result.now ≡ length (decimal e.0) = ap length (c.format.ensures.text ∙ ap decimal c.key.ensures) in
    let bytes : c.digits_len.result ≡ length (bytes_text e.1) = c.digits_len.ensures.is ∙ sym (text_long c.bytes.result.now) ∙ ap (λ b. length (bytes_text b)) c.bytes.ensures.bytes in
    (λ i. 6 + key i + bytes i) ∙ sym (line_long e)
