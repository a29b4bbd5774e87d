use Rattle.std.proofs.Common.{◌≡◌, ◌∙◌, sym, ap, arith, [], ◌∷◌}
use Rattle.std.specs.Prelude.{Err}
use Rattle.std.proofs.lemmas.Grind.{common_steps}
use Rattle.rom_model.specs.Tests.{test, checked}
use Rattle.rom_model.specs.declared.unfit.Rule.TheVariants as rule
use Rattle.rom_order_region.proofs.NodeTests.{entry_broke, entry_last}
use Rattle.rom_order_region.proofs.inspection.inspect_entry.Goals as goal

pub returns-in_err-check_zeros : goal.returns-in_err-check_zeros
returns-in_err-check_zeros c b here =
    let e = c.in_err-check_zeros.field-0.0 in
    let is : c.from_residual.result ≡ Err e = grind (arith, common_steps) in
    entry_broke c.args.region.now c.args.low c.args.high c.args.node c.args.order b here c.from_residual.result e is (sym c.check_zeros.ensures ∙ c.in_err-check_zeros.was)

pub returns : goal.returns
returns c b here =
    entry_last c.args.region.now c.args.low c.args.high c.args.node c.args.order b here c.check.result (sym c.check_zeros.ensures ∙ c.in_ok-check_zeros.was)
    (c.check.ensures ∙ ap (λ t. checked (test c.args.node rule.Order t ∷ [])) c.is_between.ensures)
