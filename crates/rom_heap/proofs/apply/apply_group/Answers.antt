use Rattle.std.proofs.Common.{◌≡◌, ◌+◌, arith, sym, ap, ◌∙◌, subst}
use Rattle.rom_model.specs.State.{replies_to, any_full}
use Rattle.rom_model.specs.Region.{Contents}
use Rattle.rom_heap.proofs.Steps.{raised}
use Rattle.rom_heap.proofs.Grouping.{fit_is, unfit_is}
use Rattle.rom_heap.proofs.apply.apply_group.Goals as goal

pub returns-then-not-fit-clause-done : goal.returns-then-not-fit-clause-done
returns-then-not-fit-clause-done g c s k held =
    let r = c.requires.region in
    let same : k ≡ r.1 = sym held.1.shape.root.count_is ∙ r.2.1.shape.root.count_is in
    let now = subst (λ w. Contents c.args.order w s k) (sym c.fits-fit.ensures.looks.image) held in
    (unfit_is (any_full (replies_to c.args.order s k c.args.calls.now)) c.fits-fit.result (c.fits-fit.ensures.is s k k held) c.if-not-fit.true, raised (omega (arith, same, r.3)) c.raise_count-stamp.ensures.raised c.raise_count-stamp.ensures.others now)

pub update_all-requires-clause-region : goal.update_all-requires-clause-region
update_all-requires-clause-region g c =
    let r = c.requires.region in
    let now = subst (λ w. Contents c.args.order w r.0 r.1) (sym c.fits-fit.ensures.looks.image) r.2 in
    let counted = c.raise_count-stamp.ensures in
    record { state = r.0; place = r.1; contents = raised r.3 counted.raised counted.others now; stamp_is = counted.stamp ∙ ap (λ m. m + 1) now.1.shape.root.count_is }

pub returns-clause-done : goal.returns-clause-done
returns-clause-done g c s k held =
    let r = c.requires.region in
    let same : k ≡ r.1 = sym held.1.shape.root.count_is ∙ r.2.1.shape.root.count_is in
    let now = subst (λ w. Contents c.args.order w s k) (sym c.fits-fit.ensures.looks.image) held in
    let done = c.update_all.ensures.does.steps_are s k (raised (omega (arith, same, r.3)) c.raise_count-stamp.ensures.raised c.raise_count-stamp.ensures.others now) in
    (fit_is (any_full (replies_to c.args.order s k c.args.calls.now)) c.fits-fit.result (c.fits-fit.ensures.is s k k held) c.if-not-fit.false, done.0, done.1)
