use Rattle.rom_model.specs.Machine.{on_words}
use Rattle.std.proofs.Common.{rules, ◌≡◌, refl, sym, ap, ◌∙◌, subst, Some}
use Rattle.rom_rule.specs.CallKinds.{altered, answering}
use Rattle.rom_rule.specs.Kinds.{planned}
use Rattle.rom_rule.specs.Places.{slot_at}
use Rattle.rom_rule.specs.Views.{base_of, plan_of}
use Rattle.rom_rule.specs.declared.views.Base.{Base}
use Rattle.rom_rule.specs.declared.views.Plan.{Plan}
use Rattle.rom_rule.specs.declared.views.View.{View}
use Rattle.rom_rule.proofs.Requests.{answers_add}
use Rattle.rom_lr.proofs.Seated.{plan_after, writes_after, sized_after}
use Rattle.rom_announce.proofs.answering.finish.Goals as goal

pub fetch_add-requires : goal.fetch_add-requires
fetch_add-requires g c = let s = c.args.seat.now in let r = c.requires.found in let same : c.args.caller ≡ r.0.caller = sym r.3 in let can = r.4 in
    (search rules, search rules, rw (c.slot-at.ensures.is, ap (λ l. slot_at l.callers c.args.caller 0) c.args.shared.now.laid, same) (answers_add g.O.Object.Contents (on_words g.O.Object.machine) (base_of c.args.shared.now.table.shared.key) _ _ _ r.0 r.1 r.2 s.writes ((can.0.0, can.0.1, refl, can.0.3), can.1, can.2, can.3)))

pub invariant_of-seat : goal.invariant_of-seat
invariant_of-seat g c = let s = c.args.seat.now in let v : View = s.token.me.0 in let at : c.slot-at.result ≡ slot_at v.base.callers c.args.caller 0 = c.slot-at.ensures.is ∙ (ap (λ l. slot_at l.callers c.args.caller 0) c.args.shared.now.laid ∙ ap (λ (z : Base). slot_at z.callers c.args.caller 0) (sym c.requires.of.1)) in
    let q : Plan = altered c.args.caller answering (plan_of v) in let did = c.fetch_add.ensures.2 c.args.caller c.requires.within.0 at in let w : View = c.fetch_add.new.seat.me.0 in let now : w ≡ planned v q = ap (λ m. m.0) did in record {
      bare = ap (λ m. m.1) did ∙ s.bare;
      writes = writes_after v w q now;
      sized = sized_after v w q refl refl now s.sized;
      out = ap (λ (z : View). z.position) now ∙ s.out;
      named = (s.named.0 ∙ sym (ap (λ (z : Plan). z.version) (plan_after v w q now)), s.named.1);
    }

pub returns : goal.returns
returns g c = let v : View = c.args.seat.now.token.me.0 in let at : c.slot-at.result ≡ slot_at v.base.callers c.args.caller 0 = c.slot-at.ensures.is ∙ (ap (λ l. slot_at l.callers c.args.caller 0) c.args.shared.now.laid ∙ ap (λ (z : Base). slot_at z.callers c.args.caller 0) (sym c.requires.of.1)) in
    let q : Plan = altered c.args.caller answering (plan_of v) in let now : c.fetch_add.new.seat.me.0 ≡ planned v q = ap (λ m. m.0) (c.fetch_add.ensures.2 c.args.caller c.requires.within.0 at) in record {
      answered = (c.fetch_add.ensures.0, c.fetch_add.ensures.1, subst (λ (z : View). z ≡ record v { plan = Some q; steps = z.steps }) (sym now) refl);
      step = ap (λ (z : View). z.steps) now;
    }
