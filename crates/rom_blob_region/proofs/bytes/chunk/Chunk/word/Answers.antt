use Rattle.std.proofs.Common.{slice_index, arith, sym, ap, ◌∙◌}
use Rattle.rom_blob_region.specs.Bytes.{word_from_bytes}
use Rattle.rom_blob_region.specs.Packed.{word_is}
use Rattle.rom_blob_region.proofs.Carried.{byte_small}
use Rattle.rom_blob_region.proofs.bytes.chunk.Chunk.word.Goals as goal

pub returns-clause-word : goal.returns-clause-word
returns-clause-word c = sym (word_is c.self.inside.len c.self.inside.words c.self.invariant c.args.i) ∙ ap (λ bytes. word_from_bytes bytes c.args.i) c.self.view_is

pub returns-clause-bytes : goal.returns-clause-bytes
returns-clause-bytes c k = omega (arith, ap (λ bytes. slice_index bytes k) c.self.view_is, byte_small c.self.inside.words 0 c.self.inside.len k)
