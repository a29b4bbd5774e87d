use Rattle.std.proofs.Common.{ℕ, ◌<◌, slice_index, Ok, Err, OnOk, rules, arith}
use Rattle.rom_blob_region.specs.Texts.{AreBytes}
use Rattle.rom_blob_region.proofs.Texts.{front_small}
use Rattle.rom_blob_region.proofs.told.print_bytes.Goals as goal

pub returns-clause-fits : goal.returns-clause-fits
returns-clause-fits g c =
    let bytes = c.args.bytes.now in
    let small : (k : ℕ) → slice_index c.padded-padded.result k < 256 = search rules in
    let are : AreBytes bytes = (omega (arith, c.len-len.ensures.many, c.len-len.ensures.within), front_small bytes _ c.padded-padded.result c.padded-padded.ensures small) in
    elim c.print_bytes.result as (λ r. OnOk r (AreBytes bytes)) [ Ok v ↦ are | Err e ↦ tt ]
