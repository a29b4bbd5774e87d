use Rattle.std.proofs.Common.{◌≡◌, ◌+◌, [], ◌∷◌, ◌++◌, take, sym, ◌∙◌, ap, subst, arith}
use Rattle.std.proofs.lemmas.List.{map-append, take_all, take_more}
use Rattle.rom_model.specs.VecSpace.{words_of_space}
use Rattle.rom_blob_region.specs.Region.{BlobContents}
use Rattle.rom_blob_carry.specs.Elements.{entries_in, entry_of}
use Rattle.rom_blob_carry.specs.Grown.{after_sets}
use Rattle.rom_blob_carry.proofs.Growing.{sets_append}
use Rattle.rom_blob_carry.proofs.grow.set_all.Goals as goal

pub set_kept-requires-clause-region : goal.set_kept-requires-clause-region
set_kept-requires-clause-region c =
    let q = c.requires.region in
    (after_sets c.args.order q.0 (entries_in (take c.loop-one.one-index c.args.kept.now)), q.1, c.loop-one.invariant q.0 q.1 q.2)

pub loop-one-preserved : goal.loop-one-preserved
loop-one-preserved c s k held =
    let n = c.args.order in
    let kept = c.args.kept.now in
    let i = c.loop-one.one-index in
    let one = c.one-item.result in
    let so_far = entries_in (take i kept) in
    let more : entries_in (take (i + 1) kept) ≡ so_far ++ entries_in (one ∷ []) = ap entries_in (take_more kept i one c.loop-one-test.true) ∙ map-append entry_of (take i kept) _ ∙ ap (λ x. so_far ++ entries_in (x ∷ [])) (sym c.one-item.is) in
    subst (λ t. BlobContents n (words_of_space c.set_kept.new.space) t k) (sym (ap (after_sets n s) more ∙ sets_append n s so_far (entries_in (one ∷ [])))) (c.set_kept.ensures.set (after_sets n s so_far) k (c.loop-one.invariant s k held))

pub returns : goal.returns
returns c = record {
  set = λ s k held.
      subst (λ kept. BlobContents c.args.order (words_of_space c.loop-one.space) (after_sets c.args.order s (entries_in kept)) k) (take_all c.loop-one.one-index c.args.kept.now (omega arith)) (c.loop-one.invariant s k held);
}
