use Rattle.std.proofs.Common.{◌≡◌, ◌+◌, ◌∙◌, sym, ap, arith, [], ◌∷◌}
use Rattle.std.specs.Prelude.{Err}
use Rattle.std.proofs.lemmas.Grind.{common_steps}
use Rattle.rom_model.specs.Tests.{test, checked, is_word}
use Rattle.rom_model.specs.declared.unfit.Rule.TheVariants as rule
use Rattle.rom_order_region.proofs.NodeTests.{height_one, height_last}
use Rattle.rom_order_region.proofs.inspection.inspect_height.Goals as goal

pub returns-in_err-check_word : goal.returns-in_err-check_word
returns-in_err-check_word c b l r here left right =
    let e = c.in_err-check_word.field-0.0 in
    let is : c.from_residual.result ≡ Err e = grind (arith, common_steps) in
    let word = ap (λ m. checked (is_word c.args.region.now (c.args.node + 4) rule.Count (m + 1) ∷ [])) c.max.ensures in
    height_one c.args.region.now c.args.node c.args.left c.args.right c.args.order b l r here left right c.from_residual.result e is (sym word ∙ sym c.check_word.ensures ∙ c.in_err-check_word.was)

pub returns : goal.returns
returns c b l r here left right =
    let word = ap (λ m. checked (is_word c.args.region.now (c.args.node + 4) rule.Count (m + 1) ∷ [])) c.max.ensures in
    height_last c.args.region.now c.args.node c.args.left c.args.right c.args.order b l r here left right c.check.result (sym word ∙ sym c.check_word.ensures ∙ c.in_ok-check_word.was) (c.check.ensures ∙ ap (λ t. checked (test (c.args.node + 4) rule.Ends t ∷ [])) c.are_even.ensures)
