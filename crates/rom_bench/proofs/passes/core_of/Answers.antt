use Rattle.std.proofs.Common.{ℕ, sym, subst}
use Rattle.rom_lr.specs.Seats.{opened_with}
use Rattle.rom_model.specs.Region.{Contents}
use Rattle.rom_model.specs.State.{empty}
use Rattle.rom_rule.specs.declared.views.Base.{Base}
use Rattle.rom_bench.proofs.passes.core_of.Goals as goal

pub new-requires-clause-formed : goal.new-requires-clause-formed
new-requires-clause-formed c =
    let b = opened_with c.args.shared.now in
    (empty, 0, subst (λ (b : Base). Contents b.order b.image empty 0) (sym c.requires.of.1) (subst (λ (n : ℕ). Contents n b.image empty 0) (sym c.requires.order_is) c.requires.made))
