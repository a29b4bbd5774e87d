use Rattle.rom_model.specs.Machine.{on_words}
use Rattle.std.proofs.Common.{rules, arith, ◌≡◌, ℕ, ◌<◌, sym, ap, ◌∙◌, refl, subst, Some}
use Rattle.rom_rule.specs.Kinds.{observed, planned}
use Rattle.rom_rule.specs.Places.{indicator_count, indicator_of, version_of_indicator}
use Rattle.rom_rule.specs.Views.{base_of, plan_of}
use Rattle.rom_rule.specs.declared.views.Base.{Base}
use Rattle.rom_rule.specs.declared.views.Plan.{Plan}
use Rattle.rom_rule.specs.declared.views.View.{View}
use Rattle.rom_rule.proofs.Writes.{checks_indicator, observed_parts}
use Rattle.rom_lr.proofs.Seated.{plan_after, writes_after, sized_after}
use Rattle.rom_lr.proofs.shared.Shared.check.Goals as goal

pub load-requires : goal.load-requires
load-requires g c = let seat = c.args.seat.now in let k : ℕ = indicator_of c.args.caller c.args.version in
    let named : version_of_indicator k ≡ c.args.version = omega (arith, c.requires.low) in
    let many : seat.token.me.0.base.callers ≡ c.args.self.now.layout.callers = ap (λ (z : Base). z.callers) c.requires.of.1 ∙ sym (ap (λ l. l.callers) c.args.self.now.laid) in
    let inside : k < indicator_count seat.token.me.0.base.callers = omega (arith, c.requires.caller.0, c.requires.caller.1, c.requires.low, many) in (
      search rules,
      search rules,
      rw c.indicator-word.ensures.is (checks_indicator g.O.Object.Contents (on_words g.O.Object.machine) (base_of c.args.self.now.table.shared.key) _ _ _ k (
        seat.writes,
        inside,
        λ e. c.requires.other (e ∙ named),
      )),
    )

pub invariant_of-seat : goal.invariant_of-seat
invariant_of-seat g c = let did = (c.load.ensures.2 (indicator_of c.args.caller c.args.version) c.indicator-word.ensures.is).1 in let seat = c.args.seat.now in let v : View = seat.token.me.0 in let w : View = c.load.new.seat.me.0 in let p : Plan = observed (indicator_of c.args.caller c.args.version) c.load.result (plan_of v) in
    let parts = observed_parts (indicator_of c.args.caller c.args.version) c.load.result (plan_of v) in
    let now : w ≡ planned v p = ap (λ m. m.0) did in record {
      bare = ap (λ m. m.1) did ∙ seat.bare;
      writes = writes_after v w p now;
      sized = sized_after v w p parts.0 parts.1 now seat.sized;
      out = ap (λ (z : View). z.position) now ∙ seat.out;
      named = (seat.named.0 ∙ sym (ap (λ (q : Plan). q.version) (plan_after v w p now) ∙ parts.3), seat.named.1);
    }

pub returns : goal.returns
returns g c = let did = (c.load.ensures.2 (indicator_of c.args.caller c.args.version) c.indicator-word.ensures.is).1 in let v : View = c.args.seat.now.token.me.0 in let w : View = c.load.new.seat.me.0 in let p : Plan = observed (indicator_of c.args.caller c.args.version) c.load.result (plan_of v) in
    let now : w ≡ planned v p = ap (λ m. m.0) did in record {
      checked = (c.load.ensures.0, c.load.ensures.1, subst (λ (z : View). z ≡ record v { plan = Some p; steps = z.steps }) (sym now) refl);
    }
