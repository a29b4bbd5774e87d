use Rattle.std.proofs.Common.{ℕ, ap, ◌∙◌, arith}
use Rattle.rom_rule.specs.Places.{indicator_count}
use Rattle.rom_rule.specs.Views.{base_of, has, plan_of}
use Rattle.rom_rule.specs.declared.views.View.{View}
use Rattle.rom_lr.proofs.Waiting.{has_below}
use Rattle.rom_lr.proofs.shared.Shared.new.Goals as goal

pub returns-clause-unread : goal.returns-clause-unread
returns-clause-unread g c = let is = c.in_ok-seats.ensures.writer in let n : ℕ = indicator_count (base_of c.in_ok-shared.shared.table.shared.key).callers in
    (ap (λ (v : View). (plan_of v).side) is, λ k lt. ap (λ (v : View). has k (plan_of v).clear) is ∙ has_below n k (omega (arith, lt, ap (λ (v : View). v.base.callers) is)))
