use Rattle.std.proofs.Common.{sym, ◌∙◌, subst, length}
use Rattle.std.specs.Prelude.{nat_le}
use Rattle.std.specs.FinMap as finite
use Rattle.rom_model.specs.VecSpace.{words_of_space}
use Rattle.rom_blob_region.specs.State.{set_blob}
use Rattle.rom_blob_region.specs.Region.{BlobContents}
use Rattle.rom_blob_carry.proofs.Growing.{bytes_of}
use Rattle.rom_blob_carry.proofs.grow.set_kept.Goals as goal

pub returns-in-Some : goal.returns-in-Some
returns-in-Some c = record {
  set = λ s k held.
      let n = c.args.order in
      let w = words_of_space c.set_blob.new.space in
      let bytes = bytes_of (nat_le (length c.bytes.result.now) 256) c.bytes.result.now c.in-Some.bytes (sym c.in-Some.is ∙ c.of.ensures) ∙ c.bytes.ensures.bytes in
      subst (λ q. BlobContents n w (set_blob n s q c.args.kept.now.bytes.items (finite.get s q)).0 k) c.key.ensures
      (subst (λ b. BlobContents n w (set_blob n s c.key.result b (finite.get s c.key.result)).0 k) bytes (c.set_blob.ensures.done s k held).1);
}
