use Rattle.rom_model.specs.Machine.{on_words}
use Rattle.std.proofs.Common.{rules, ◌≡◌, ◌+◌, refl, sym, ap, ◌∙◌, subst, Some}
use Rattle.rom_rule.specs.CallKinds.{altered, loading}
use Rattle.rom_rule.specs.Kinds.{planned}
use Rattle.rom_rule.specs.Places.{slot_at}
use Rattle.rom_rule.specs.Views.{base_of, plan_of}
use Rattle.rom_rule.specs.declared.views.Base.{Base}
use Rattle.rom_rule.specs.declared.views.Plan.{Plan}
use Rattle.rom_rule.specs.declared.views.Request.{Request}
use Rattle.rom_rule.specs.declared.views.View.{View}
use Rattle.rom_rule.proofs.Requests.{loads_argument}
use Rattle.rom_lr.proofs.Seated.{plan_after, writes_after, sized_after}
use Rattle.rom_announce.proofs.scanning.load_argument.Goals as goal

pub load-requires : goal.load-requires
load-requires g c = let s = c.args.seat.now in let f : Request = c.requires.found.0 in let same : c.args.caller ≡ f.caller = sym c.requires.found.1.2 in
    (search rules, search rules, rw (c.slot-at.ensures.is, ap (λ l. slot_at l.callers c.args.caller (1 + c.args.j)) c.args.shared.now.laid, same) (loads_argument g.O.Object.Contents (on_words g.O.Object.machine) (base_of c.args.shared.now.table.shared.key) _ _ c.args.j _ f s.writes ((c.requires.found.1.0, c.requires.found.1.1, refl, c.requires.found.1.3), c.requires.found.2, c.requires.found.3)))

pub invariant_of-seat : goal.invariant_of-seat
invariant_of-seat g c = let s = c.args.seat.now in let v : View = s.token.me.0 in let at : c.slot-at.result ≡ slot_at v.base.callers c.args.caller (1 + c.args.j) = c.slot-at.ensures.is ∙ (ap (λ l. slot_at l.callers c.args.caller (1 + c.args.j)) c.args.shared.now.laid ∙ ap (λ (z : Base). slot_at z.callers c.args.caller (1 + c.args.j)) (sym c.requires.of.1)) in
    let q : Plan = altered c.args.caller (loading c.args.j c.load.result) (plan_of v) in let did = (c.load.ensures.2 c.args.caller c.args.j c.requires.within.0 c.requires.within.2 at).0 in let w : View = c.load.new.seat.me.0 in let now : w ≡ planned v q = ap (λ m. m.0) did in record {
      bare = ap (λ m. m.1) did ∙ s.bare;
      writes = writes_after v w q now;
      sized = sized_after v w q refl refl now s.sized;
      out = ap (λ (z : View). z.position) now ∙ s.out;
      named = (s.named.0 ∙ sym (ap (λ (z : Plan). z.version) (plan_after v w q now)), s.named.1);
    }

pub returns-clause-few : goal.returns-clause-few
returns-clause-few g c = let v : View = c.args.seat.now.token.me.0 in let at : c.slot-at.result ≡ slot_at v.base.callers c.args.caller (1 + c.args.j) = c.slot-at.ensures.is ∙ (ap (λ l. slot_at l.callers c.args.caller (1 + c.args.j)) c.args.shared.now.laid ∙ ap (λ (z : Base). slot_at z.callers c.args.caller (1 + c.args.j)) (sym c.requires.of.1)) in
    (c.load.ensures.2 c.args.caller c.args.j c.requires.within.0 c.requires.within.2 at).1

pub returns-clause-call : goal.returns-clause-call
returns-clause-call g c = let v : View = c.args.seat.now.token.me.0 in let at : c.slot-at.result ≡ slot_at v.base.callers c.args.caller (1 + c.args.j) = c.slot-at.ensures.is ∙ (ap (λ l. slot_at l.callers c.args.caller (1 + c.args.j)) c.args.shared.now.laid ∙ ap (λ (z : Base). slot_at z.callers c.args.caller (1 + c.args.j)) (sym c.requires.of.1)) in
    (c.load.ensures.2 c.args.caller c.args.j c.requires.within.0 c.requires.within.2 at).2

pub returns-clause-loaded : goal.returns-clause-loaded
returns-clause-loaded g c = let v : View = c.args.seat.now.token.me.0 in let at : c.slot-at.result ≡ slot_at v.base.callers c.args.caller (1 + c.args.j) = c.slot-at.ensures.is ∙ (ap (λ l. slot_at l.callers c.args.caller (1 + c.args.j)) c.args.shared.now.laid ∙ ap (λ (z : Base). slot_at z.callers c.args.caller (1 + c.args.j)) (sym c.requires.of.1)) in
    let q : Plan = altered c.args.caller (loading c.args.j c.load.result) (plan_of v) in let now : c.load.new.seat.me.0 ≡ planned v q = ap (λ m. m.0) (c.load.ensures.2 c.args.caller c.args.j c.requires.within.0 c.requires.within.2 at).0 in
    (c.load.ensures.0, c.load.ensures.1, subst (λ (z : View). z ≡ record v { plan = Some q; steps = z.steps }) (sym now) refl)

pub returns-clause-step : goal.returns-clause-step
returns-clause-step g c = let v : View = c.args.seat.now.token.me.0 in let at : c.slot-at.result ≡ slot_at v.base.callers c.args.caller (1 + c.args.j) = c.slot-at.ensures.is ∙ (ap (λ l. slot_at l.callers c.args.caller (1 + c.args.j)) c.args.shared.now.laid ∙ ap (λ (z : Base). slot_at z.callers c.args.caller (1 + c.args.j)) (sym c.requires.of.1)) in
    ap (λ m. m.0.steps) (c.load.ensures.2 c.args.caller c.args.j c.requires.within.0 c.requires.within.2 at).0
