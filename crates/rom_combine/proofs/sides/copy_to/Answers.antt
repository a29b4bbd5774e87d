use Rattle.std.proofs.Common.{Some, arith, ◌≡◌, ℕ, ◌+◌, List, [], ◌∷◌, length, get_or, drop, sym, refl, ap, ◌∙◌, subst}
use Rattle.std.proofs.lemmas.List.{drop_more, drop_all}
use Rattle.rom_announce.proofs.Altered.{writes_chain}
use Rattle.rom_combine.specs.Copying.{Copies, with_side, words_at}
use Rattle.rom_combine.proofs.Copies.{same_all, same_but_more, side_again, side_sized, side_still, side_unread, words_beside}
use Rattle.rom_combine.proofs.Writing.{writes_still}
use Rattle.rom_lr.specs.Side.{other_side}
use Rattle.rom_lr.specs.Writing.{SetsPlan}
use Rattle.rom_lr.specs.declared.side.Side.{Side}
use Rattle.rom_model.specs.Blocks.{region_len}
use Rattle.rom_ranges.specs.Changes.{SameBut}
use Rattle.rom_ranges.specs.Ranges.{AreWithin}
use Rattle.rom_ranges.specs.declared.range.Range.{Range}
use Rattle.rom_rule.specs.declared.views.Plan.{Plan}
use Rattle.rom_rule.specs.declared.views.View.{View}
use Rattle.rom_rule.specs.Views.{plan_of}
use Rattle.rom_combine.proofs.sides.copy_to.Goals as goal

pub loop-range-init : goal.loop-range-init
loop-range-init g c = let u : View = c.args.seat.now.token.me.0 in record {
  kept = (refl, refl, subst (λ (z : Plan). u ≡ record u { plan = Some z; steps = u.steps }) (sym (side_still c.args.side (plan_of u))) (writes_still u c.args.seat.now.writes));
  within = c.requires.within;
  but = c.requires.but;
}

pub copy_range-requires-clause-unread : goal.copy_range-requires-clause-unread
copy_range-requires-clause-unread g c = side_unread c.args.side c.args.seat.now.token.me.0 c.loop-range.seat.token.me.0 (words_at c.args.side (plan_of c.loop-range.seat.token.me.0)) c.loop-range.invariant.kept.2 c.requires.unread

pub copy_range-requires-clause-within : goal.copy_range-requires-clause-within
copy_range-requires-clause-within g c =
    let i : ℕ = c.loop-range.range-index in let rs : List Range = c.args.ranges.now in let r : Range = get_or rs i record { start = 0; end = 0 } in
    let split : drop i rs ≡ r ∷ drop (i + 1) rs = drop_more rs i record { start = 0; end = 0 } (omega arith) in
    let base = ap (λ (z : View). region_len z.base.order) c.loop-range.invariant.kept.2 in
    omega (arith, (subst (λ (l : List Range). AreWithin (region_len c.args.seat.now.token.me.0.base.order) l) split c.loop-range.invariant.within).0, base)

pub loop-range-preserved : goal.loop-range-preserved
loop-range-preserved g c =
    let inv = c.loop-range.invariant in let u : View = c.args.seat.now.token.me.0 in let v : View = c.loop-range.seat.token.me.0 in let w : View = c.copy_range.new.seat.token.me.0 in
    let side : Side = c.args.side in let p : Plan = plan_of u in let was : List ℕ = words_at side (plan_of v) in let now : List ℕ = words_at side (plan_of w) in
    let i : ℕ = c.loop-range.range-index in let rs : List Range = c.args.ranges.now in let r : Range = get_or rs i record { start = 0; end = 0 } in
    let split : drop i rs ≡ r ∷ drop (i + 1) rs = drop_more rs i record { start = 0; end = 0 } (omega arith) in
    let one : plan_of v ≡ with_side side was p = ap plan_of inv.kept.2 in let kept = c.copy_range.ensures.kept in
    let plan : with_side side now (plan_of v) ≡ with_side side now p = ap (with_side side now) one ∙ side_again side now was p in
    let source : words_at (other_side side) (plan_of v) ≡ words_at (other_side side) p = ap (words_at (other_side side)) one ∙ words_beside side was p in
    let copied : Copies r (words_at (other_side side) p) was now = subst (λ (l : List ℕ). Copies r l was now) source c.copy_range.ensures.copied in
    record {
      kept = (kept.0 ∙ inv.kept.0, kept.1 ∙ inv.kept.1, subst (λ (z : Plan). w ≡ record u { plan = Some z; steps = w.steps }) plan (writes_chain u v w (with_side side was p) (with_side side now (plan_of v)) inv.kept.2 kept.2));
      within = (subst (λ (l : List Range). AreWithin (region_len u.base.order) l) split inv.within).1;
      but = same_but_more r (drop (i + 1) rs) (words_at (other_side side) p) was now (subst (λ (l : List Range). SameBut l was (words_at (other_side side) p)) split inv.but) copied;
    }

pub returns : goal.returns
returns g c =
    let inv = c.loop-range.invariant in let u : View = c.args.seat.now.token.me.0 in let v : View = c.loop-range.seat.token.me.0 in
    let side : Side = c.args.side in let p : Plan = plan_of u in let now : List ℕ = words_at side (plan_of v) in let source : List ℕ = words_at (other_side side) p in
    let none : drop c.loop-range.range-index c.args.ranges.now ≡ [] = drop_all c.loop-range.range-index c.args.ranges.now (omega arith) in
    let base = ap (λ (z : View). region_len z.base.order) inv.kept.2 in
    let long : length now ≡ length source = side_sized side (plan_of v) (region_len v.base.order) c.loop-range.seat.sized ∙ (base ∙ sym (side_sized (other_side side) p (region_len u.base.order) c.args.seat.now.sized)) in
    let all : now ≡ source = same_all source now long (subst (λ (l : List Range). SameBut l now source) none inv.but) in
    subst (λ (l : List ℕ). SetsPlan c.args.seat.now c.loop-range.seat (with_side side l p)) all inv.kept
