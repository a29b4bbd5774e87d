-- The request of one caller, changed twice
use Rattle.std.proofs.Common.{◌≡◌, ◌≢◌, ℕ, List, sym, ap, ◌∙◌, Bool, cond, eq-eqb, ne_eqb, Some}
use mathlib.Core.Logic.{dite}
use mathlib.Core.Option.{some}
use native.Mathlib.Decide.{ℕ_discrete}
use Rattle.atomic_table.proofs.Lists.{at_map}
use Rattle.rom_rule.specs.CallKinds.{IsPending, alter, altered, answered}
use Rattle.rom_rule.specs.declared.views.Plan.{Plan}
use Rattle.rom_rule.specs.declared.views.Request.{Request}
use Rattle.rom_rule.specs.declared.views.View.{View}
use Rattle.rom_rule.proofs.Told.{map_map, map_alike}

module _ (c : ℕ) where
  alter_here : (g : Request → Request) (f : Request) → f.caller ≡ c → alter c g f ≡ g f
  alter_here g f e = ap (λ (t : Bool). cond t (g f) f) (eq-eqb f.caller c e)

  alter_else : (g : Request → Request) (f : Request) → f.caller ≢ c → alter c g f ≡ f
  alter_else g f ne = ap (λ (t : Bool). cond t (g f) f) (ne_eqb f.caller c ne)

  twice : (g h : Request → Request) → ((f : Request) → (h f).caller ≡ f.caller) → (f : Request) → alter c g (alter c h f) ≡ alter c (λ y. g (h y)) f
  twice g h same f = dite (ℕ_discrete f.caller c)
      (λ e. ap (alter c g) (alter_here h f e) ∙ (alter_here g (h f) (same f ∙ e) ∙ sym (alter_here (λ y. g (h y)) f e)))
      (λ ne. ap (alter c g) (alter_else h f ne) ∙ (alter_else g f ne ∙ sym (alter_else (λ y. g (h y)) f ne)))

  pub altered_twice : (g h : Request → Request) (p : Plan) → ((f : Request) → (h f).caller ≡ f.caller) → altered c g (altered c h p) ≡ altered c (λ f. g (h f)) p
  altered_twice g h p same = ap (λ (l : List Request). record p { requests = l }) (map_map (alter c g) (alter c h) p.requests ∙ map_alike (λ f. alter c g (alter c h f)) (alter c (λ f. g (h f))) p.requests (twice g h same))

  pub pending_on : (g : Request → Request) (p : Plan) (f : Request) → (g f).caller ≡ f.caller → (g f).answered ≡ f.answered → IsPending p c f → IsPending (altered c g p) c (g f)
  pending_on g p f caller answered h = (h.0, at_map (alter c g) p.requests h.0 f h.1 ∙ ap some (alter_here g f h.2), caller ∙ h.2, answered ∙ h.3)

-- steps of the writer's, one after another
pub writes_chain : (u v w : View) (p q : Plan) → v ≡ record u { plan = Some p; steps = v.steps } → w ≡ record v { plan = Some q; steps = w.steps } → w ≡ record u { plan = Some q; steps = w.steps }
writes_chain u v w p q e f = f ∙ ap (λ (z : View). let y : View = record z { plan = Some q; steps = w.steps } in y) e
