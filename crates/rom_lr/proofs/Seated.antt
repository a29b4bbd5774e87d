-- What a step of the writer's leaves in its seat.
use Rattle.std.proofs.Common.{◌≡◌, ◌≢◌, ℕ, ◌+◌, ◌∷◌, sym, refl, ap, length, ◌∙◌, subst, Bool, cond, ne_eqb, Some}
use Rattle.rom_model.specs.Blocks.{region_len}
use Rattle.rom_rule.specs.Kinds.{observed, planned}
use Rattle.rom_rule.specs.Views.{plan_of}
use Rattle.rom_rule.specs.declared.views.Plan.{Plan}
use Rattle.rom_rule.specs.declared.views.View.{View}

pub plan_after : (v w : View) (p : Plan) → w ≡ planned v p → plan_of w ≡ p
plan_after v w p e = ap plan_of e

pub writes_after : (v w : View) (p : Plan) → w ≡ planned v p → w.plan ≡ Some (plan_of w)
writes_after v w p e = subst (λ (z : View). z.plan ≡ Some (plan_of z)) (sym e) refl

-- an indicator that isn't 0 leaves the plan
pub not_observed : (k found : ℕ) (p : Plan) → found ≢ 0 → observed k found p ≡ p
not_observed k found p ne = ap (λ (t : Bool). let z : Plan = cond t (record p { clear = (k, p.version) ∷ p.clear }) p in z) (ne_eqb found 0 ne)

-- a step more, after some steps
pub chain : (u v w : View) (p q : Plan) → v ≡ record u { plan = Some p; steps = v.steps } → w ≡ planned v q → w ≡ record u { plan = Some q; steps = w.steps }
chain u v w p q e f = subst (λ (z : View). z ≡ record u { plan = Some q; steps = z.steps }) (sym f) (ap (λ (z : View). let y : View = record z { plan = Some q; steps = v.steps + 1 } in y) e)

abbrev pub Sized : View → Type 0
Sized v = (length (plan_of v).main ≡ region_len v.base.order) × (length (plan_of v).back ≡ region_len v.base.order)

pub sized_after : (v w : View) (p : Plan) → p.main ≡ (plan_of v).main → p.back ≡ (plan_of v).back → w ≡ planned v p → Sized v → Sized w
sized_after v w p e f now h = subst Sized (sym now) (ap length e ∙ h.0, ap length f ∙ h.1)
