use Rattle.std.proofs.Common.{◌≡◌, ℕ, ◌+◌, ◌^◌, ◌∷◌, ◌∙◌, refl, sym, ap, subst, arith, get_or, set, true, false}
use Rattle.rom_model.specs.Chains.{times}
use Rattle.rom_heap.specs.Walks.{AreMarks}
use Rattle.rom_heap.proofs.Marking.{unmarked, marked, mark_more}
use Rattle.rom_heap.proofs.inspect.follow.follow.Goals as goal

pub returns-in_default : goal.returns-in_default
returns-in_default c seen are = ((λ b leads. c.in_default.ensures b leads.least leads.most leads.here), refl)

pub returns-then-marks-leaf : goal.returns-then-marks-leaf
returns-then-marks-leaf c seen are = (
  (λ b leads.
      let u = c.in-Some.ensures in
      let same : c.in-Some.unit ≡ b = omega (arith, u.0, leads.here) in
      let there : get_or c.args.marks.now (2 ^ c.args.order + c.in-Some.unit) false ≡ true = ap (λ (a : ℕ). get_or c.args.marks.now (a + c.in-Some.unit) false) (sym c.power_of_two.ensures.is) ∙ c.if-marks-leaf.true in
      let busy = marked c.args.order c.in-Some.unit seen c.args.marks.now c.requires.order.least u.1 u.2 are there in
      omega (arith, busy, leads.fresh, ap (λ (a : ℕ). times a seen) same)),
  refl,
)

pub returns : goal.returns
returns c seen are =
    let u = c.in-Some.ensures in
    let there : get_or c.args.marks.now (2 ^ c.args.order + c.in-Some.unit) false ≡ false = ap (λ (a : ℕ). get_or c.args.marks.now (a + c.in-Some.unit) false) (sym c.power_of_two.ensures.is) ∙ c.if-marks-leaf.false in
    let none = unmarked c.args.order c.in-Some.unit seen c.args.marks.now c.requires.order.least u.1 u.2 are there in
    let more = mark_more c.args.order c.in-Some.unit seen c.args.marks.now c.requires.order.least u.1 u.2 are none in
    record {
      block = c.in-Some.unit;
      leads = record { here = u.0; least = u.1; most = u.2; fresh = none };
      here = u.0;
      marked = subst (λ (a : ℕ). AreMarks c.args.order (c.in-Some.unit ∷ seen) (set c.args.marks.now (a + c.in-Some.unit) true)) (sym c.power_of_two.ensures.is) more;
    }
