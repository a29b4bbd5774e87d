use Rattle.std.proofs.Common.{sym, ◌∙◌}
use Rattle.rom_blob_region.proofs.Padding.{cells_written}
use Rattle.rom_blob_region.proofs.bytes.chunk.Chunk.padded.Goals as goal

pub returns : goal.returns
returns c = c.write_u64_into.ensures ∙ cells_written c.self.inside.len c.self.inside.words c.args.self.now c.self.invariant (sym c.self.view_is)
