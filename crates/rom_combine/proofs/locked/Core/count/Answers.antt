use Rattle.std.proofs.Common.{◌≡◌, ◌*◌, ◌∙◌, [], List, refl, sym, ap, subst, append-nil, true}
use Rattle.rom_model.specs.Machine.{on_words}
use Rattle.rom_rule.specs.Views.{Each, plan_of, records_of}
use Rattle.rom_rule.specs.declared.views.Base.{Base}
use Rattle.rom_rule.specs.declared.views.Plan.{Plan}
use Rattle.rom_rule.specs.declared.views.View.{View}
use Rattle.rom_combine.proofs.Keeping.{Stays, ready_by, rest_same}
use Rattle.rom_combine.proofs.locked.Core.count.Goals as goal

pub invariant_of-self : goal.invariant_of-self
invariant_of-self g c =
    let v : View = c.self.inside.seat.token.me.0 in
    let w : View = c.load_main.new.seat.token.me.0 in
    let base : w.base ≡ v.base = ap (λ (z : View). z.base) c.load_main.ensures.still.2 in
    let plan : plan_of w ≡ plan_of v = ap plan_of c.load_main.ensures.still.2 in
    let stays : Stays [] (plan_of v) (plan_of w) = record {
      main = ap (λ (p : Plan). p.main) plan;
      back = ap (λ (p : Plan). p.back) plan;
      side = ap (λ (p : Plan). p.side) plan;
      clear = ap (λ (p : Plan). p.clear) plan;
      history = ap (λ (p : Plan). p.history) plan;
      records = ap records_of plan ∙ sym (append-nil (records_of (plan_of v)));
    } in
    let answered = subst (λ (p : Plan). Each (λ _ f. f.answered ≡ true) p.requests) (sym plan) c.self.invariant.0.answered in (
      rest_same g.O.Object.Contents (on_words g.O.Object.machine) g.D.Device.shown c.self.inside.twin v w c.self.invariant.0 base stays answered,
      ready_by (g.O.Object.STORES * g.O.Object.WEIGHT) v.base w.base c.self.inside.log c.self.inside.log c.self.invariant.1 base c.self.invariant.1.clear refl,
    )
