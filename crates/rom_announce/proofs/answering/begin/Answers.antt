use Rattle.rom_model.specs.Machine.{on_words}
use Rattle.std.proofs.Common.{rules, arith, ◌≡◌, ℕ, sym, refl, ap, ◌∙◌, subst, Some}
use Rattle.rom_model.specs.declared.record.Fate.{Fate}
use Rattle.rom_announce.specs.Answering.{HasRecord}
use Rattle.rom_rule.specs.CallKinds.{CanMakeRecord, altered, laying}
use Rattle.rom_rule.specs.Kinds.{planned}
use Rattle.rom_rule.specs.Places.{slot_at}
use Rattle.rom_rule.specs.Views.{base_of, plan_of}
use Rattle.rom_rule.specs.declared.views.Base.{Base}
use Rattle.rom_rule.specs.declared.views.Plan.{Plan}
use Rattle.rom_rule.specs.declared.views.Request.{Request}
use Rattle.rom_rule.specs.declared.views.View.{View}
use Rattle.rom_announce.proofs.Recording.{recorded_same, begun_plan}
use Rattle.atomic_table.specs.Table.{step}
use mathlib.Core.Option.{none}
use Rattle.rom_rule.proofs.Requests.{begins_answer}
use Rattle.rom_lr.proofs.Seated.{plan_after, writes_after, sized_after}
use Rattle.rom_announce.proofs.answering.begin.Goals as goal

pub store-requires : goal.store-requires
store-requires g c = let s = c.args.seat.now in let v : View = s.token.me.0 in let f : Request = c.requires.found.0 in let same : c.args.caller ≡ f.caller = sym c.requires.found.1.2 in let picked = c.requires.picked in (
  search rules,
  search rules,
  rw (c.slot-at.ensures.is, ap (λ l. slot_at l.callers c.args.caller 43) c.args.shared.now.laid, same) (begins_answer g.O.Object.Contents (on_words g.O.Object.machine) (base_of c.args.shared.now.table.shared.key) g.met.O.Object.one_contents _ _ _ _ _ 0 _ f _ s.writes
      (λ e. subst (λ (z : Fate × ℕ × ℕ). CanMakeRecord g.O.Object.Contents (on_words g.O.Object.machine) v.base (plan_of v) z.0 z.1 z.2) (λ i. (sym picked.2 i, sym picked.0 i, sym picked.1 i)) (c.requires.can e))
      ((c.requires.found.1.0, c.requires.found.1.1, refl, c.requires.found.1.3), omega arith, omega arith)),
)

pub invariant_of-seat : goal.invariant_of-seat
invariant_of-seat g c = let s = c.args.seat.now in let v : View = s.token.me.0 in let at : c.slot-at.result ≡ slot_at v.base.callers c.args.caller 43 = c.slot-at.ensures.is ∙ (ap (λ l. slot_at l.callers c.args.caller 43) c.args.shared.now.laid ∙ ap (λ (z : Base). slot_at z.callers c.args.caller 43) (sym c.requires.of.1)) in
    let did = begun_plan g.O.Object.Contents (on_words g.O.Object.machine) g.N.PassEnd.fate g.N.PassEnd.before g.N.PassEnd.after c.args.caller (step 0 c.slot-at.result c.args.count 0 none) s.token.me c.store.new.seat.me 0 c.requires.within.0 at c.store.ensures.2 in
    let q : Plan = altered c.args.caller (laying 0 c.args.count) did.0 in let w : View = c.store.new.seat.me.0 in let now : w ≡ planned v q = ap (λ m. m.0) did.2 in let same = recorded_same g.O.Object.Contents (on_words g.O.Object.machine) v.base (plan_of v) g.N.PassEnd.fate g.N.PassEnd.before g.N.PassEnd.after did.0 did.1 in record {
      bare = ap (λ m. m.1) did.2 ∙ s.bare;
      writes = writes_after v w q now;
      sized = sized_after v w q same.1 same.2 now s.sized;
      out = ap (λ (z : View). z.position) now ∙ s.out;
      named = (s.named.0 ∙ (sym same.3 ∙ sym (ap (λ (z : Plan). z.version) (plan_after v w q now))), s.named.1);
    }

pub returns : goal.returns
returns g c = let s = c.args.seat.now in let v : View = s.token.me.0 in let picked = c.requires.picked in let at : c.slot-at.result ≡ slot_at v.base.callers c.args.caller 43 = c.slot-at.ensures.is ∙ (ap (λ l. slot_at l.callers c.args.caller 43) c.args.shared.now.laid ∙ ap (λ (z : Base). slot_at z.callers c.args.caller 43) (sym c.requires.of.1)) in
    let did = begun_plan g.O.Object.Contents (on_words g.O.Object.machine) g.N.PassEnd.fate g.N.PassEnd.before g.N.PassEnd.after c.args.caller (step 0 c.slot-at.result c.args.count 0 none) s.token.me c.store.new.seat.me 0 c.requires.within.0 at c.store.ensures.2 in
    let q : Plan = altered c.args.caller (laying 0 c.args.count) did.0 in let w : View = c.store.new.seat.me.0 in let now : w ≡ planned v q = ap (λ m. m.0) did.2 in record {
      begun = (
        did.0,
        subst (λ (z : Fate × ℕ × ℕ). HasRecord g.O.Object.Contents (on_words g.O.Object.machine) v.base (plan_of v) did.0 z.0 z.1 z.2) (λ i. (picked.2 i, picked.0 i, picked.1 i)) did.1,
        (c.store.ensures.0, c.store.ensures.1, subst (λ (z : View). z ≡ record v { plan = Some q; steps = z.steps }) (sym now) refl),
      );
      step = ap (λ (z : View). z.steps) now;
    }
