use Rattle.std.proofs.Common.{ℕ, ◌<◌, slice_index, rules, arith}
use Rattle.rom_blob_region.proofs.Texts.{front_small}
use Rattle.rom_blob_carry.proofs.elements.kept.Kept.of.Goals as goal

pub returns-in_err-from_slice-clause-are : goal.returns-in_err-from_slice-clause-are
returns-in_err-from_slice-clause-are c =
    let small : (k : ℕ) → slice_index c.padded-padded.result k < 256 = search rules in
    (omega (arith, c.len.ensures.many, c.len.ensures.within), front_small c.args.bytes.now _ c.padded-padded.result c.padded-padded.ensures small)

pub returns-clause-are : goal.returns-clause-are
returns-clause-are c =
    let small : (k : ℕ) → slice_index c.padded-padded.result k < 256 = search rules in
    (omega (arith, c.len.ensures.many, c.len.ensures.within), front_small c.args.bytes.now _ c.padded-padded.result c.padded-padded.ensures small)
