-- Steps of the writer's, one after another.
use Rattle.std.proofs.Common.{◌≡◌, ℕ, List, sym, ap, ◌∙◌, subst, Option, Some}
use Rattle.rom_lr.specs.Seats.{plan, writer_view}
use Rattle.rom_lr.specs.Writing.{SetsPlan}
use Rattle.rom_lr.specs.declared.seats.WriterSeat.{WriterSeat}
use Rattle.rom_rule.specs.Views.{plan_of}
use Rattle.rom_rule.specs.declared.views.Plan.{Plan}
use Rattle.rom_rule.specs.declared.views.View.{View}
use Rattle.rom_announce.proofs.Altered.{writes_chain}

-- no step
pub writes_still : (v : View) → v.plan ≡ Some (plan_of v) → v ≡ record v { plan = Some (plan_of v); steps = v.steps }
writes_still v e = ap (λ (o : Option Plan). let z : View = record v { plan = o } in z) e

-- steps that change main alone
pub main_writes : (u v w : View) (p : Plan) (m m' : List ℕ) → v ≡ record u { plan = Some (record p { main = m }); steps = v.steps } → w ≡ record v { plan = Some (record (plan_of v) { main = m' }); steps = w.steps }
    → w ≡ record u { plan = Some (record p { main = m' }); steps = w.steps }
main_writes u v w p m m' e f = subst (λ (z : Plan). w ≡ record u { plan = Some z; steps = w.steps }) (ap (λ (z : View). let q : Plan = record (plan_of z) { main = m' } in q) e)
    (writes_chain u v w (record p { main = m }) (record (plan_of v) { main = m' }) e f)

-- nothing of the view changes but the plan and the number of its steps
abbrev pub KeepsView : View → View → Type 0
KeepsView u v = v ≡ record u { plan = Some (plan_of v); steps = v.steps }

pub keeps_by : (u v : View) (p : Plan) → v ≡ record u { plan = Some p; steps = v.steps } → KeepsView u v
keeps_by u v p e = subst (λ (z : Plan). v ≡ record u { plan = Some z; steps = v.steps }) (sym (ap plan_of e)) e

pub keeps_then : (u v w : View) → KeepsView u v → KeepsView v w → KeepsView u w
keeps_then u v w e f = writes_chain u v w (plan_of v) (plan_of w) e f

-- the writer's seat after some steps, and after some more
pub seat_by : (s t : WriterSeat) (p : Plan) → SetsPlan s t p → SetsPlan s t (plan t)
seat_by s t p e = (e.0, e.1, keeps_by (writer_view s) (writer_view t) p e.2)

pub seat_then : (s t u : WriterSeat) → SetsPlan s t (plan t) → SetsPlan t u (plan u) → SetsPlan s u (plan u)
seat_then s t u e f = (f.0 ∙ e.0, f.1 ∙ e.1, keeps_then (writer_view s) (writer_view t) (writer_view u) e.2 f.2)
