use Rattle.std.proofs.Common.{◌≡◌, ℕ, ◌-◌, ap, sym, ◌∙◌, subst, arith}
use Rattle.rom_rule.specs.Readers.{Settled}
use Rattle.rom_rule.specs.Views.{plan_of}
use Rattle.rom_rule.specs.declared.views.Base.{Base}
use Rattle.rom_rule.specs.declared.views.Plan.{Plan}
use Rattle.rom_rule.specs.declared.views.View.{View}
use Rattle.rom_lr.specs.Writing.{plan_after_both_waits, plan_after_wait}
use Rattle.rom_lr.proofs.Waiting.{both_over}
use Rattle.rom_lr.proofs.shared.Shared.settle.Goals as goal

pub returns-clause-settled : goal.returns-clause-settled
returns-clause-settled g c = let s = c.args.seat.now in let u : View = s.token.me.0 in let p : Plan = plan_of u in let n : ℕ = c.args.self.now.layout.callers in let z : View = c.wait_for_all-2.new.seat.token.me.0 in
    let first = c.wait_for_all.ensures.waited.2 in let named = c.name_version.ensures.named.2 in let second = c.wait_for_all-2.ensures.waited.2 in
    let many : u.base.callers ≡ n = ap (λ (b : Base). b.callers) c.requires.of.1 ∙ sym (ap (λ l. l.callers) c.args.self.now.laid) in
    let base : z.base ≡ u.base = ap (λ (v : View). v.base) second ∙ (ap (λ (v : View). v.base) named ∙ ap (λ (v : View). v.base) first) in
    let plan : plan_of z ≡ plan_after_both_waits n p = ap plan_of second ∙ (ap (λ (q : Plan). plan_after_wait s.version n q) (ap plan_of named ∙ ap (λ (q : Plan). let r : Plan = record q { version = 1 - s.version } in r) (ap plan_of first))
    ∙ ap (λ (v : ℕ). plan_after_wait v n (record (plan_after_wait (1 - v) n p) { version = 1 - v })) s.named.0) in
    subst (λ (r : Base × Plan). Settled r.0 r.1) (λ i. (sym base i, sym (plan ∙ ap (λ (m : ℕ). plan_after_both_waits m p) (sym many)) i)) (both_over u.base p (omega (arith, s.named.0, s.named.1)))
