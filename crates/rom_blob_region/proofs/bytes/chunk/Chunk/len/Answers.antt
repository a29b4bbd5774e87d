use Rattle.std.proofs.Common.{length, sym, ap, ◌∙◌}
use Rattle.rom_blob_region.specs.Packed.{long_at}
use Rattle.rom_blob_region.proofs.bytes.chunk.Chunk.len.Goals as goal

pub returns-clause-many : goal.returns-clause-many
returns-clause-many c = sym (long_at c.self.inside.words 0 c.self.inside.len) ∙ ap length c.self.view_is
