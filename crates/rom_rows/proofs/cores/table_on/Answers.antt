use Rattle.std.proofs.Common.{ℕ, sym, ap, ◌∙◌, subst}
use Rattle.rom_model.specs.Region.{Contents}
use Rattle.rom_rule.specs.declared.views.Base.{Base}
use Rattle.rom_rule.specs.declared.views.View.{View}
use Rattle.rom_rows.proofs.cores.table_on.Goals as goal

pub new-requires-clause-formed : goal.new-requires-clause-formed
new-requires-clause-formed g c = let h = c.requires.formed in (h.0, h.1, subst (λ (o : ℕ). Contents o c.args.image.now h.0 h.1) (sym c.order.ensures.order) h.2)

pub new-core-requires-clause-formed : goal.new-core-requires-clause-formed
new-core-requires-clause-formed g c = let h = c.requires.formed in
    (h.0, h.1, subst (λ (b : Base). Contents b.order b.image h.0 h.1) (sym (ap (λ (v : View). v.base) c.in_ok-shared.ensures.writer ∙ c.in_ok-shared.ensures.base)) (subst (λ (o : ℕ). Contents o c.args.image.now h.0 h.1) (sym c.order.ensures.order) h.2))
