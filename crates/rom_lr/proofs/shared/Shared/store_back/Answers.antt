use Rattle.rom_model.specs.Machine.{on_words}
use Rattle.std.proofs.Common.{rules, refl, sym, ap, ◌≡◌, ℕ, ◌<◌, ◌∙◌, subst, set, length-set, Some}
use Rattle.rom_model.specs.Blocks.{region_len}
use Rattle.rom_rule.specs.Kinds.{planned}
use Rattle.rom_rule.specs.Places.{back_word_at}
use Rattle.rom_rule.specs.Views.{base_of, plan_of}
use Rattle.rom_rule.specs.declared.views.Base.{Base}
use Rattle.rom_rule.specs.declared.views.Plan.{Plan}
use Rattle.rom_rule.specs.declared.views.View.{View}
use Rattle.rom_rule.proofs.Writes.{stores_back}
use Rattle.rom_lr.proofs.Seated.{plan_after, writes_after, Sized}
use Rattle.rom_lr.proofs.Sides.{back_from}
use Rattle.rom_lr.proofs.shared.Shared.store_back.Goals as goal

pub store-requires : goal.store-requires
store-requires g c = let laid = c.args.self.now.laid in (
  search rules,
  search rules,
  rw ((back_from c.args.self.now.layout.order c.args.self.now.layout.callers c.args.self.now.back c.args.at c.args.self.now.placed.1), ap (λ l. back_word_at l.order l.callers c.args.at) laid) (stores_back g.O.Object.Contents (on_words g.O.Object.machine) (base_of c.args.self.now.table.shared.key) _ _ _ c.args.at _ (c.args.seat.now.writes, c.requires.unread.1, c.requires.unread.0)
      (subst (λ (k : ℕ). c.args.at < region_len k) (ap (λ l. l.order) laid) c.requires.inside)),
)

pub invariant_of-seat : goal.invariant_of-seat
invariant_of-seat g c = let laid = c.args.self.now.laid in let of = c.requires.of.1 in let v : View = c.args.seat.now.token.me.0 in let w : View = c.store.new.seat.me.0 in let p : Plan = plan_of v in let q : Plan = record p { back = set p.back c.args.at c.args.value } in
    let inside = subst (λ (z : Base). c.args.at < region_len z.order) (sym of) (subst (λ (k : ℕ). c.args.at < region_len k) (ap (λ l. l.order) laid) c.requires.inside) in
    let did = c.store.ensures.2 c.args.at inside ((back_from c.args.self.now.layout.order c.args.self.now.layout.callers c.args.self.now.back c.args.at c.args.self.now.placed.1) ∙ (ap (λ l. back_word_at l.order l.callers c.args.at) laid ∙ ap (λ (z : Base). back_word_at z.order z.callers c.args.at) (sym of))) in
    let now : w ≡ planned v q = ap (λ m. m.0) did in record {
      bare = ap (λ m. m.1) did ∙ c.args.seat.now.bare;
      writes = writes_after v w q now;
      sized = subst Sized (sym now) (c.args.seat.now.sized.0, length-set p.back c.args.at c.args.value ∙ c.args.seat.now.sized.1);
      out = ap (λ (z : View). z.position) now ∙ c.args.seat.now.out;
      named = (c.args.seat.now.named.0 ∙ sym (ap (λ (z : Plan). z.version) (plan_after v w q now)), c.args.seat.now.named.1);
    }

pub returns : goal.returns
returns g c = let laid = c.args.self.now.laid in let of = c.requires.of.1 in let v : View = c.args.seat.now.token.me.0 in let w : View = c.store.new.seat.me.0 in let p : Plan = plan_of v in let q : Plan = record p { back = set p.back c.args.at c.args.value } in
    let inside = subst (λ (z : Base). c.args.at < region_len z.order) (sym of) (subst (λ (k : ℕ). c.args.at < region_len k) (ap (λ l. l.order) laid) c.requires.inside) in
    let did = c.store.ensures.2 c.args.at inside ((back_from c.args.self.now.layout.order c.args.self.now.layout.callers c.args.self.now.back c.args.at c.args.self.now.placed.1) ∙ (ap (λ l. back_word_at l.order l.callers c.args.at) laid ∙ ap (λ (z : Base). back_word_at z.order z.callers c.args.at) (sym of))) in
    let now : w ≡ planned v q = ap (λ m. m.0) did in record {
      stored = (c.store.ensures.0, c.store.ensures.1, subst (λ (z : View). z ≡ record v { plan = Some q; steps = z.steps }) (sym now) refl);
      step = ap (λ (z : View). z.steps) now;
    }
