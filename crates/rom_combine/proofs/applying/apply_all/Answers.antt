use Rattle.rom_model.specs.Machine.{on_words, weight_on_words}
use Rattle.std.proofs.Common.{rules, arith, ◌≡◌, ℕ, ◌+◌, ◌-◌, ◌*◌, ◌<◌, ◌≤◌, List, [], ◌∷◌, ◌++◌, map, take, length, sym, refl, ap, ◌∙◌, subst}
use mathlib.Core.Option.{some}
use lib.ListN.{get_elem?}
use Rattle.atomic_table.proofs.Lists.{at_index, at_map}
use mathlib.Core.Logic.{dite}
use native.Mathlib.Decide.{dec_le}
use Rattle.rom_model.specs.History.{after, LAST_COUNT}
use Rattle.rom_ranges.specs.Changes.{IsLogOf}
use Rattle.rom_ranges.specs.Log.{Logged}
use Rattle.rom_combine.proofs.Stores.{room_for}
use Rattle.rom_combine.proofs.Weights.{stores_more, stores_of_all}
use Rattle.rom_combine.specs.Costs.{weights}
use Rattle.rom_rule.specs.declared.views.Base.{Base}
use Rattle.rom_rule.specs.declared.views.Plan.{Plan}
use Rattle.rom_rule.specs.declared.views.View.{View}
use Rattle.rom_rule.specs.Views.{plan_of}
use Rattle.rom_rule.specs.Records.{IsCall}
use Rattle.rom_combine.proofs.Writing.{main_writes, writes_still}
use Rattle.rom_combine.specs.declared.answering.CallAnswer.{CallAnswer}
use Rattle.rom_combine.specs.declared.scanning.Posted.{Posted}
use Rattle.rom_combine.specs.Applying.{batch_first, IsApplied, IsDoneOne, count_in}
use Rattle.rom_combine.proofs.Applies.{posted_at, none_applied, next_state, one_applied}
use Rattle.rom_combine.proofs.applying.apply_all.Goals as goal

pub loop-i-init : goal.loop-i-init
loop-i-init g c = let u : View = c.args.seat.now.token.me.0 in let h = c.requires.held in (
  (refl, refl, writes_still u c.args.seat.now.writes),
  ap length c.clear.ensures,
  (
    h.0,
    h.1,
    h.2,
    h.4,
    subst (λ (l : List CallAnswer). IsApplied g.O.Object.Contents (on_words g.O.Object.machine) u.base h.0 h.1 (plan_of u) (plan_of u).main 0 l) (sym c.clear.ensures) (none_applied g.O.Object.Contents (on_words g.O.Object.machine) u.base h.0 h.1 (plan_of u) (plan_of u).main h.3),
  ),
  (c.requires.logged, omega (arith, c.requires.clear), omega (arith, c.requires.clear), refl),
)

pub apply_next-requires-clause-call : goal.apply_next-requires-clause-call
apply_next-requires-clause-call g c = let inv = c.loop-i.invariant in let u : View = c.args.seat.now.token.me.0 in let v : View = c.loop-i.seat.token.me.0 in let p : Plan = plan_of u in let b : Base = u.base in let i : ℕ = c.loop-i.i in let items : List Posted = c.args.found.now in let x : Posted = c.index-found-i.result in let h = inv.2 in
    let at : get_elem? items i ≡ some x = at_index items i x c.loop-i-test.true c.index-found-i.is in let f = posted_at items p.requests i x c.requires.found at in let base : v.base ≡ b = ap (λ (z : View). z.base) inv.0.2 in
    subst (λ (z : Base × Posted). IsCall (on_words g.O.Object.machine) z.0 z.1.args) (λ j. (sym base j, f.2 j)) (c.requires.fresh i f.0 f.1).2

pub apply_next-requires-clause-held : goal.apply_next-requires-clause-held
apply_next-requires-clause-held g c = let inv = c.loop-i.invariant in let u : View = c.args.seat.now.token.me.0 in let v : View = c.loop-i.seat.token.me.0 in let p : Plan = plan_of u in let b : Base = u.base in let i : ℕ = c.loop-i.i in let items : List Posted = c.args.found.now in let x : Posted = c.index-found-i.result in let h = inv.2 in
    let at : get_elem? items i ≡ some x = at_index items i x c.loop-i-test.true c.index-found-i.is in let f = posted_at items p.requests i x c.requires.found at in let base : v.base ≡ b = ap (λ (z : View). z.base) inv.0.2 in (
      after (on_words g.O.Object.machine) b.order (after (on_words g.O.Object.machine) b.order h.0 h.1 p.history) (h.1 + length p.history) (batch_first g.O.Object.Contents (on_words g.O.Object.machine) b h.0 h.1 p i),
      λ low. subst (λ (z : Base × ℕ). g.O.Object.Contents z.0.order (plan_of v).main (after (on_words g.O.Object.machine) b.order (after (on_words g.O.Object.machine) b.order h.0 h.1 p.history) (h.1 + length p.history) (batch_first g.O.Object.Contents (on_words g.O.Object.machine) b h.0 h.1 p i)) z.1)
          (λ j. (sym base j, (let e : h.1 + length p.history + i ≡ c.args.place + i = omega (arith, h.3) in e) j))
          (next_state g.O.Object.Contents (on_words g.O.Object.machine) b h.0 h.1 p (plan_of v).main i c.loop-i.answers.items f.0 h.4 c.requires.fresh f.1 (omega (arith, h.3, low))),
    )

pub loop-i-preserved : goal.loop-i-preserved
loop-i-preserved g c = let inv = c.loop-i.invariant in let u : View = c.args.seat.now.token.me.0 in let v : View = c.loop-i.seat.token.me.0 in let p : Plan = plan_of u in let b : Base = u.base in let i : ℕ = c.loop-i.i in let items : List Posted = c.args.found.now in let x : Posted = c.index-found-i.result in let h = inv.2 in
    let at : get_elem? items i ≡ some x = at_index items i x c.loop-i-test.true c.index-found-i.is in let f = posted_at items p.requests i x c.requires.found at in let base : v.base ≡ b = ap (λ (z : View). z.base) inv.0.2 in
    let answer : CallAnswer = c.apply_next.ensures.done.0 in
    let did : IsDoneOne g.O.Object.Contents (on_words g.O.Object.machine) b (Rattle.rom_combine.specs.Scanning.posted_of f.0) (h.1 + length p.history + i) (plan_of v).main (plan_of c.apply_next.new.seat.token.me.0).main answer
    = subst (λ (z : Base × Posted × ℕ). IsDoneOne g.O.Object.Contents (on_words g.O.Object.machine) z.0 z.1 z.2 (plan_of v).main (plan_of c.apply_next.new.seat.token.me.0).main answer)
    (λ j. (base j, sym f.2 j, (let e : c.args.place + i ≡ h.1 + length p.history + i = omega (arith, h.3) in e) j)) c.apply_next.ensures.done.1 in let pushed = c.apply_next.ensures.done.2 in
    let w : View = c.apply_next.new.seat.token.me.0 in let one = c.apply_next.ensures in let log : Logged = c.loop-i.log in let stores : ℕ = g.O.Object.STORES in
    let weight : List ℕ → ℕ = weight_on_words g.O.Object.machine in let calls : List (List ℕ) = map (λ (y : Posted). y.args) items in
    let back : (plan_of v).back ≡ p.back = ap (λ (z : View). (plan_of z).back) inv.0.2 in
    let few : c.apply_next.new.log.added ≤ stores * weights weight (take (count_in (plan_of w).main - c.args.place) calls)
    = dite (dec_le LAST_COUNT (c.args.place + i))
    (λ past. let spent = did.spent (omega (arith, past, h.3)) in subst (λ (z : List ℕ × Logged). z.1.added ≤ stores * weights weight (take (count_in z.0 - c.args.place) calls)) (λ j. (sym spent.0 j, sym (one.spent past) j)) inv.3.1)
    (λ below. let low : h.1 + length p.history + i < LAST_COUNT = omega (arith, below, h.3) in
    let before = next_state g.O.Object.Contents (on_words g.O.Object.machine) b h.0 h.1 p (plan_of v).main i c.loop-i.answers.items f.0 h.4 c.requires.fresh f.1 low in
    let after = did.done low _ before in
    let was = (g.met.O.Object.contents_within b.order (plan_of v).main _ _ before).1 in let is = (g.met.O.Object.contents_within b.order (plan_of w).main _ _ after.3).1 in
    stores_more weight stores c.args.place (count_in (plan_of v).main) (count_in (plan_of w).main) log.added c.apply_next.new.log.added i calls x.args (at_map (λ (y : Posted). y.args) items i x at) (omega (arith, was, h.3)) (omega (arith, was, is)) inv.3.1 one.few) in (
      (
        c.apply_next.ensures.kept.0 ∙ inv.0.0,
        c.apply_next.ensures.kept.1 ∙ inv.0.1,
        main_writes u v c.apply_next.new.seat.token.me.0 p (plan_of v).main (plan_of c.apply_next.new.seat.token.me.0).main inv.0.2 c.apply_next.ensures.kept.2,
      ),
      ap length pushed ∙ (let e : length (c.loop-i.answers.items ++ answer ∷ []) ≡ i + 1 = omega (arith, Rattle.std.proofs.Common.length-append c.loop-i.answers.items (answer ∷ []), inv.1) in e),
      (
        h.0,
        h.1,
        h.2,
        h.3,
        subst (λ (l : List CallAnswer). IsApplied g.O.Object.Contents (on_words g.O.Object.machine) b h.0 h.1 p (plan_of c.apply_next.new.seat.token.me.0).main (i + 1) l) (sym pushed)
            (one_applied g.O.Object.Contents (on_words g.O.Object.machine) b h.0 h.1 p (plan_of v).main (plan_of c.apply_next.new.seat.token.me.0).main i c.loop-i.answers.items f.0 answer h.4 c.requires.fresh f.1 did),
      ),
      (
        subst (λ (l : List ℕ). IsLogOf l (plan_of w).main c.apply_next.new.log) back one.logged,
        few,
        omega (arith, inv.3.2, one.most),
        one.room ∙ inv.3.3,
      ),
    )

pub apply_next-requires-clause-logged : goal.apply_next-requires-clause-logged
apply_next-requires-clause-logged g c =
    let inv = c.loop-i.invariant in let v : View = c.loop-i.seat.token.me.0 in
    subst (λ (l : List ℕ). IsLogOf l (plan_of v).main c.loop-i.log) (sym (ap (λ (z : View). (plan_of z).back) inv.0.2)) inv.3.0

pub apply_next-requires-clause-room : goal.apply_next-requires-clause-room
apply_next-requires-clause-room g c = let inv = c.loop-i.invariant in
    let most : ℕ = g.O.Object.STORES * g.O.Object.WEIGHT in subst (λ (n : ℕ). c.loop-i.log.added + most ≤ n) (sym inv.3.3) (room_for most c.loop-i.i (length c.args.found.now) c.loop-i.log.added c.args.log.now.room c.loop-i-test.true inv.3.2 c.requires.room)

pub returns-clause-most : goal.returns-clause-most
returns-clause-most g c =
    stores_of_all (weight_on_words g.O.Object.machine) g.O.Object.STORES c.loop-i.log.added (count_in (plan_of c.loop-i.seat.token.me.0).main - c.args.place) (map (λ (y : Posted). y.args) c.args.found.now) c.loop-i.invariant.3.1
