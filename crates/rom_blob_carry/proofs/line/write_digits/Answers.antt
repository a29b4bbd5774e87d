use Rattle.std.proofs.Common.{◌∙◌, rules}
use Rattle.rom_blob_region.proofs.Texts.{encoded}
use Rattle.rom_blob_carry.proofs.line.write_digits.Goals as goal

pub returns : goal.returns
returns c = c.in-Ok.ensures.written ∙ encoded c.args.bytes.now (search rules)
