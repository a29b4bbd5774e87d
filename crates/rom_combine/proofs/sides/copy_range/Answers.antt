use Rattle.std.proofs.Common.{Some, arith, inl, inr, ◌≡◌, ℕ, ◌+◌, List, length, get_or, set, sym, refl, ap, ◌∙◌, subst}
use Rattle.rom_model.specs.Blocks.{region_len}
use Rattle.rom_lr.specs.Side.{other_side}
use Rattle.rom_lr.specs.declared.side.Side.{Side}
use Rattle.rom_rule.specs.declared.views.Base.{Base}
use Rattle.rom_rule.specs.declared.views.Plan.{Plan}
use Rattle.rom_rule.specs.declared.views.View.{View}
use Rattle.rom_rule.specs.Views.{plan_of}
use Rattle.rom_announce.proofs.Altered.{writes_chain}
use Rattle.rom_combine.specs.Copying.{with_side, words_at}
use Rattle.rom_combine.proofs.Copies.{CopiesUpTo, copied_none, copied_more, copied_range, side_again, side_sized, side_still, side_unread, words_beside, words_given}
use Rattle.rom_combine.proofs.Writing.{writes_still}
use Rattle.rom_combine.proofs.sides.copy_range.Goals as goal

pub loop-at-init : goal.loop-at-init
loop-at-init g c = let u : View = c.args.seat.now.token.me.0 in let side : Side = c.args.side in let p : Plan = plan_of u in record {
  kept = (refl, refl, subst (λ (z : Plan). u ≡ record u { plan = Some z; steps = u.steps }) (sym (side_still side p)) (writes_still u c.args.seat.now.writes));
  copied = copied_none c.args.range.start (words_at (other_side side) p) (words_at side p);
  within = inr refl;
}

pub copy_word-requires-clause-unread : goal.copy_word-requires-clause-unread
copy_word-requires-clause-unread g c = side_unread c.args.side c.args.seat.now.token.me.0 c.loop-at.seat.token.me.0 (words_at c.args.side (plan_of c.loop-at.seat.token.me.0)) c.loop-at.invariant.kept.2 c.requires.unread

pub copy_word-requires-clause-inside : goal.copy_word-requires-clause-inside
copy_word-requires-clause-inside g c = let base = ap (λ (z : View). region_len z.base.order) c.loop-at.invariant.kept.2 in omega (arith, base, c.requires.within, c.loop-at-test.true)

pub loop-at-preserved : goal.loop-at-preserved
loop-at-preserved g c =
    let inv = c.loop-at.invariant in let u : View = c.args.seat.now.token.me.0 in let v : View = c.loop-at.seat.token.me.0 in let w : View = c.copy_word.new.seat.token.me.0 in
    let side : Side = c.args.side in let p : Plan = plan_of u in let at : ℕ = c.loop-at.at in let was : List ℕ = words_at side (plan_of v) in let step = c.copy_word.ensures in
    let one : plan_of v ≡ with_side side was p = ap plan_of inv.kept.2 in
    let source : words_at (other_side side) (plan_of v) ≡ words_at (other_side side) p = ap (words_at (other_side side)) one ∙ words_beside side was p in
    let now : List ℕ = set was at (get_or (words_at (other_side side) p) at 0) in
    let plan : with_side side (set was at (get_or (words_at (other_side side) (plan_of v)) at 0)) (plan_of v) ≡ with_side side now p
    = (λ i. with_side side (set was at (get_or (source i) at 0)) (one i)) ∙ side_again side now was p in
    let end : words_at side (plan_of w) ≡ now = ap (λ (z : View). words_at side (plan_of z)) step.2 ∙ (ap (words_at side) plan ∙ words_given side now p) in
    let same : with_side side now p ≡ with_side side (words_at side (plan_of w)) p = ap (λ (l : List ℕ). with_side side l p) (sym end) in
    let base : v.base ≡ u.base = ap (λ (z : View). z.base) inv.kept.2 in
    let long : length was ≡ region_len u.base.order = side_sized side (plan_of v) (region_len v.base.order) c.loop-at.seat.sized ∙ ap (λ (z : Base). region_len z.order) base in
    record {
      kept = (step.0 ∙ inv.kept.0, step.1 ∙ inv.kept.1, writes_chain u v w (with_side side was p) (with_side side (words_at side (plan_of w)) p) inv.kept.2 (subst (λ (z : Plan). w ≡ record v { plan = Some z; steps = w.steps }) (plan ∙ same) step.2));
      copied = subst (λ (l : List ℕ). CopiesUpTo c.args.range.start (at + 1) (words_at (other_side side) p) (words_at side p) l) (sym end) (copied_more c.args.range.start at (words_at (other_side side) p) (words_at side p) was c.loop-at.auto.at (omega (arith, long, c.requires.within, c.loop-at-test.true)) inv.copied);
      within = inl (omega (arith, c.loop-at-test.true));
    }

pub returns-clause-copied : goal.returns-clause-copied
returns-clause-copied g c = let side : Side = c.args.side in let p : Plan = plan_of c.args.seat.now.token.me.0 in copied_range c.args.range c.loop-at.at (words_at (other_side side) p) (words_at side p) (words_at side (plan_of c.loop-at.seat.token.me.0)) c.loop-at-test.false c.loop-at.invariant.within c.loop-at.invariant.copied
