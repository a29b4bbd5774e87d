use Rattle.std.proofs.Common.{arith, refl}
use Rattle.rom_block.specs.Taken.{IsBlock}
use Rattle.rom_block.proofs.Listed.{one_disjoint}
use Rattle.rom_units.proofs.block.an_inspection_names_the_first_word_that_differs.Goals as goal

-- the bucket table is the first unit
table_block : IsBlock 4 (record { at = 48; order = 0 }) 16
table_block = record { most = omega arith; node = record { least = omega arith; most = omega arith }; here = refl }

pub inspect-told-requires-clause-apart : goal.inspect-told-requires-clause-apart
inspect-told-requires-clause-apart c = one_disjoint 4 16 (record { at = 48; order = 0 }) table_block
