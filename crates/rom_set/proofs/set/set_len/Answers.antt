use Rattle.std.proofs.Common.{◌∙◌, sym}
use Rattle.rom_set.proofs.Rising.{len_members}
use Rattle.rom_set.proofs.set.set_len.Goals as goal

pub returns-clause-len : goal.returns-clause-len
returns-clause-len g c s k held = c.load.ensures.word ∙ held.1.shape.set.len ∙ sym (len_members held.1.shape.set)
