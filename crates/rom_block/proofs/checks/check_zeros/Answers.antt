use Rattle.std.proofs.Common.{◌≡◌, ◌+◌, ◌-◌, ◌<◌, ◌∙◌, ap, sym, arith, ℕ}
use Rattle.std.proofs.lemmas.Grind.{common_steps}
use Rattle.rom_model.specs.Tests.{checked, are_zero}
use Rattle.rom_model.proofs.InTurn.{zeros_go_on, zeros_break}
use Rattle.rom_block.proofs.checks.check_zeros.Goals as goal

pub returns-in_err-check_word : goal.returns-in_err-check_word
returns-in_err-check_word c =
    let more : 0 < c.args.offset + c.args.many - c.loop-at.at = omega arith in
    let broke = zeros_break c.args.region.now c.loop-at.at (c.args.offset + c.args.many - c.loop-at.at) c.args.rule c.in_err-check_word.field-0.0 more (sym c.check_word.ensures ∙ c.in_err-check_word.was) in
    let all = c.loop-at.invariant ∙ broke in
    grind (arith, common_steps)

pub loop-at-init : goal.loop-at-init
loop-at-init c =
    let e : c.args.many ≡ c.args.offset + c.args.many - c.args.offset = omega arith in
    ap (λ (m : ℕ). checked (are_zero c.args.region.now c.args.offset m c.args.rule)) e

pub loop-at-preserved : goal.loop-at-preserved
loop-at-preserved c =
    let more : 0 < c.args.offset + c.args.many - c.loop-at.at = omega arith in
    let e : c.args.offset + c.args.many - c.loop-at.at - 1 ≡ c.args.offset + c.args.many - (c.loop-at.at + 1) = omega arith in
    c.loop-at.invariant ∙ zeros_go_on c.args.region.now c.loop-at.at (c.args.offset + c.args.many - c.loop-at.at) c.args.rule more (sym c.check_word.ensures ∙ c.in_ok-check_word.was)
    ∙ ap (λ (m : ℕ). checked (are_zero c.args.region.now (c.loop-at.at + 1) m c.args.rule)) e

pub returns : goal.returns
returns c =
    let e : c.args.offset + c.args.many - c.loop-at.at ≡ 0 = omega arith in
    sym (c.loop-at.invariant ∙ ap (λ (m : ℕ). checked (are_zero c.args.region.now c.loop-at.at m c.args.rule)) e)
