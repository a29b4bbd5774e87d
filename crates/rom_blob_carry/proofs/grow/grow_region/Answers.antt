use Rattle.std.proofs.Common.{◌≡◌, ◌∙◌, ap, subst, slice_index}
use Rattle.rom_model.specs.VecSpace.{words_of_space}
use Rattle.rom_blob_region.specs.State.{no_blobs}
use Rattle.rom_blob_region.specs.Region.{BlobContents}
use Rattle.rom_blob_carry.specs.Elements.{entries_in}
use Rattle.rom_blob_carry.specs.Grown.{after_sets}
use Rattle.rom_blob_carry.proofs.grow.grow_region.Goals as goal

pub returns-clause-grown : goal.returns-clause-grown
returns-clause-grown c s k held =
    let n = c.args.greater in
    let count : slice_index c.words.result.now 2 ≡ k = ap (λ w. slice_index w 2) (c.words.ensures ∙ c.of.ensures.words) ∙ held.1.root.count_is in
    let made = subst (λ m. BlobContents n (words_of_space c.in_ok-region.region) no_blobs m) count c.in_ok-region.ensures.made in
    let entries = ap entries_in c.kept.ensures ∙ c.in_ok-elements.ensures.are s k held in
    subst (λ es. BlobContents n (words_of_space c.set_all.new.space) (after_sets n no_blobs es) k) entries (c.set_all.ensures.set no_blobs k made)
