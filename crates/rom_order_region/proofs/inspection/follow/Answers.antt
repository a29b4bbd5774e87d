use Rattle.std.proofs.Common.{◌≡◌, ℕ, ◌+◌, ◌-◌, ◌^◌, ◌∷◌, ◌∙◌, refl, sym, ap, subst, arith, get_or, set, true, false}
use Rattle.rom_model.specs.Chains.{times}
use Rattle.rom_order_region.proofs.Frame.{half_pow}
use Rattle.rom_order_region.specs.Marks.{AreNodeMarks}
use Rattle.rom_order_region.proofs.Marking.{unmarked, marked, mark_more}
use Rattle.rom_order_region.proofs.inspection.follow.Goals as goal

pub returns-in_default : goal.returns-in_default
returns-in_default c seen are = ((λ b leads. c.in_default.ensures b leads.most leads.here), refl)

pub bounds-marks-place : goal.bounds-marks-place
bounds-marks-place c = omega (arith, c.requires.marks.1.as_long, c.in-Some.ensures.1, c.power_of_two.ensures.is, half_pow c.args.order (omega (arith, c.requires.order.least)))

pub returns-then-marks-place : goal.returns-then-marks-place
returns-then-marks-place c seen are = (
  (λ b leads.
      let u = c.in-Some.ensures in
      let same : c.in-Some.pair ≡ b = omega (arith, u.0, leads.here) in
      let there : get_or c.args.marks.now (2 ^ (c.args.order - 1) + c.in-Some.pair) false ≡ true = ap (λ (a : ℕ). get_or c.args.marks.now (a + c.in-Some.pair) false) (sym c.power_of_two.ensures.is) ∙ c.if-marks-place.true in
      let busy = marked c.args.order c.in-Some.pair seen c.args.marks.now c.requires.order u.1 are there in
      omega (arith, busy, leads.fresh, ap (λ (a : ℕ). times a seen) same)),
  refl,
)

pub returns : goal.returns
returns c seen are =
    let u = c.in-Some.ensures in
    let there : get_or c.args.marks.now (2 ^ (c.args.order - 1) + c.in-Some.pair) false ≡ false = ap (λ (a : ℕ). get_or c.args.marks.now (a + c.in-Some.pair) false) (sym c.power_of_two.ensures.is) ∙ c.if-marks-place.false in
    let none = unmarked c.args.order c.in-Some.pair seen c.args.marks.now c.requires.order u.1 are there in
    let more = mark_more c.args.order c.in-Some.pair seen c.args.marks.now c.requires.order u.1 are none in
    record {
      block = c.in-Some.pair;
      leads = record { here = u.0; most = u.1; fresh = none };
      here = u.0;
      marked = subst (λ (a : ℕ). AreNodeMarks c.args.order (c.in-Some.pair ∷ seen) (set c.args.marks.now (a + c.in-Some.pair) true)) (sym c.power_of_two.ensures.is) more;
    }
