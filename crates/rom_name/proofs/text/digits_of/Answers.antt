use Rattle.std.proofs.Common.{ap, ◌∙◌, rules}
use Rattle.hex.specs.Hex.{encode_lower}
use Rattle.rom_name.proofs.text.digits_of.Goals as goal

pub returns : goal.returns
returns c = c.in-Ok.ensures.written ∙ ap encode_lower (search rules)
