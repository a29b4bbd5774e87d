use Rattle.std.proofs.Common.{◌≡◌, ◌+◌, arith, sym, ap, ◌∙◌}
use Rattle.rom_heap.proofs.Steps.{raised}
use Rattle.rom_heap.proofs.apply.apply_one.Goals as goal

pub update-requires-clause-region : goal.update-requires-clause-region
update-requires-clause-region g c =
    let r = c.requires.region in
    let counted = c.raise_count-stamp.ensures in
    record { state = r.0; place = r.1; contents = raised r.3 counted.raised counted.others r.2; stamp_is = counted.stamp ∙ ap (λ m. m + 1) r.2.1.shape.root.count_is }

pub returns-clause-done : goal.returns-clause-done
returns-clause-done g c s k held =
    let r = c.requires.region in
    let same : k ≡ r.1 = sym held.1.shape.root.count_is ∙ r.2.1.shape.root.count_is in
    c.update.ensures.does.step_is s k (raised (omega (arith, same, r.3)) c.raise_count-stamp.ensures.raised c.raise_count-stamp.ensures.others held)
