use Rattle.std.proofs.Common.{sym, ap, subst, ◌∙◌}
use Rattle.std.specs.FinMap as finite
use Rattle.rom_blob_region.specs.State.{BlobState, blob_step, MayRefuse}
use Rattle.rom_blob_region.specs.Region.{BlobContents}
use Rattle.rom_blob_region.specs.declared.call.BlobCall.{BlobCall}
use Rattle.rom_blob_region.proofs.Bounding.{cut_not_full}
use Rattle.rom_blob_region.proofs.apply.update.Goals as goal

pub returns-in-Set-clause-done : goal.returns-in-Set-clause-done
returns-in-Set-clause-done g c s j k held =
    let same = ap (λ (x : BlobCall). blob_step c.args.order s j x) (sym c.in-Set.is) in
    let done = c.set_blob.ensures.done s k held in
    (done.0 ∙ ap (λ a. a.1) same, subst (λ (x : BlobState). BlobContents c.args.order (g.M.Look.shown.image c.set_blob.new.space) x k) (ap (λ a. a.0) same) done.1)

pub returns-in-Cut-clause-done : goal.returns-in-Cut-clause-done
returns-in-Cut-clause-done g c s j k held =
    let same = ap (λ (x : BlobCall). blob_step c.args.order s j x) (sym c.in-Cut.is) in
    let done = c.cut_blob.ensures.done s k held in
    (done.0 ∙ ap (λ a. a.1) same, subst (λ (x : BlobState). BlobContents c.args.order (g.M.Look.shown.image c.cut_blob.new.space) x k) (ap (λ a. a.0) same) done.1)

pub returns-in-Set-clause-crowded : goal.returns-in-Set-clause-crowded
returns-in-Set-clause-crowded g c s k held full = subst (λ (x : BlobCall). MayRefuse c.args.order s x) (sym c.in-Set.is) (c.set_blob.ensures.crowded s k held full)

pub returns-in-Cut-clause-crowded : goal.returns-in-Cut-clause-crowded
returns-in-Cut-clause-crowded g c s k held full = absurd (cut_not_full s c.in-Cut.key (finite.get s c.in-Cut.key) (sym (c.cut_blob.ensures.done s k held).0 ∙ full))
