use Rattle.std.proofs.Common.{arith, sym, ap, ◌∙◌}
use Rattle.std.specs.FinMap as finite
use Rattle.rom_bucket.proofs.Keys.{many}
use Rattle.rom_blob_region.specs.State.{BlobState}
use Rattle.rom_blob_region.specs.Region.{blob_at}
use Rattle.rom_blob_region.specs.declared.call.BlobAnswer.TheVariants as answer
use Rattle.rom_blob_region.proofs.fetch.count_blobs.Goals as goal

pub load-requires : goal.load-requires
load-requires g c = record { within = omega (arith, c.requires.region.2.1.as_long) }

pub returns-clause-told : goal.returns-clause-told
returns-clause-told g c s k held =
    let is = held.1 in
    let n = c.args.order in
    let w = g.M.Look.shown.image c.args.space.now in
    ap (λ m. answer.Keys m) (c.load.ensures.word ∙ is.keys.len ∙ sym (many is.keys (blob_at n w)) ∙ ap (λ (m : BlobState). finite.len m) is.state_is)
