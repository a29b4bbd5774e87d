use Rattle.std.proofs.Common.{ℕ, List, ◌∙◌, sym, subst}
use Rattle.rom_model.specs.Region.{OldContents}
use Rattle.rom_units.proofs.renew.renewed.Goals as goal

pub renew-requires-clause-region : goal.renew-requires-clause-region
renew-requires-clause-region c =
    let fit = c.in-Ok.ensures.fit in
    (fit.0, fit.1, subst (λ (ws : List ℕ). OldContents c.args.order ws fit.0 fit.1) (c.deref.ensures.value ∙ sym c.of-space.ensures) fit.2)
