use Rattle.std.proofs.Common.{sym, subst, ◌∙◌}
use Rattle.rom_model.specs.Region.{Contents}
use Rattle.rom_model.specs.declared.call.Answer.TheVariants.{Sizes}
use Rattle.rom_heap.proofs.answer.sizes.Goals as goal

pub returns-clause-told : goal.returns-clause-told
returns-clause-told g c s k held =
    let n = c.args.order in
    let second = c.queue_len.ensures.looks.image in
    let third = c.set_len.ensures.looks.image ∙ second in
    λ i. Sizes (c.queue_len.ensures.len s k held i) (c.set_len.ensures.len s k (subst (λ w. Contents n w s k) (sym second) held) i) (c.map_len.ensures.len s k (subst (λ w. Contents n w s k) (sym third) held) i)
