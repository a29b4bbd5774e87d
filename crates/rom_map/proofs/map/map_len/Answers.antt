use Rattle.std.proofs.Common.{sym, ◌∙◌}
use Rattle.rom_map.proofs.Keyed.{many}
use Rattle.rom_map.proofs.map.map_len.Goals as goal

pub returns-clause-len : goal.returns-clause-len
returns-clause-len g c s k held = c.load.ensures.word ∙ held.1.shape.map.len ∙ sym (many held.1)
