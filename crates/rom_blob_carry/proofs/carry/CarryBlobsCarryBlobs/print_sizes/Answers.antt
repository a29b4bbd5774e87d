use Rattle.std.proofs.Common.{sym, subst}
use Rattle.rom_text.specs.Streams.{Prints}
use Rattle.rom_blob_region.specs.Region.{BlobContents}
use Rattle.rom_blob_carry.proofs.carry.CarryBlobsCarryBlobs.print_sizes.Goals as goal

pub sizes_of-sizes-requires-clause-region : goal.sizes_of-sizes-requires-clause-region
sizes_of-sizes-requires-clause-region g c =
    let r = c.requires.region in
    (r.0, r.1, subst (λ w. BlobContents c.args.order w r.0 r.1) (sym c.words.ensures) r.2)

pub returns : goal.returns
returns g c = record {
  prints = λ text told.
      let r = c.requires.region in
      let are = c.sizes_of-sizes.ensures.are r.0 r.1 (subst (λ w. BlobContents c.args.order w r.0 r.1) (sym c.words.ensures) r.2) in
      subst (λ t. Prints g.K.Sink.shown c.args.out.now c.print_sizes.new.out c.print_sizes.result t) (sym (told r.0 r.1 r.2)) (c.print_sizes.ensures.prints r.0 r.1 are);
}
