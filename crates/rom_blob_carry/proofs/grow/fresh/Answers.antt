use Rattle.std.proofs.Common.{sym, subst, arith}
use Rattle.rom_blob_region.specs.State.{no_blobs}
use Rattle.rom_blob_region.specs.Region.{BlobContents}
use Rattle.rom_model.specs.VecSpace.{words_of_space}
use Rattle.rom_blob_carry.proofs.Growing.{counts}
use Rattle.rom_blob_carry.proofs.grow.fresh.Goals as goal

pub returns : goal.returns
returns c =
    let n = c.args.order in
    let held = c.format_blobs.ensures.made in
    record {
      made = subst (λ w. BlobContents n w no_blobs c.args.count) (sym c.store.ensures.image)
          (counts n (words_of_space c.format_blobs.new.space) no_blobs c.args.count c.requires.order.least (omega (arith, held.1.as_long)) c.requires.count held);
    }
