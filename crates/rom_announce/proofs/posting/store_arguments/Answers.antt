use Rattle.std.proofs.Common.{arith, ◌≡◌, ℕ, ◌+◌, ◌<◌, List, [], ◌∷◌, ◌++◌, take, length, get_or, ap, ◌∙◌, length-take}
use Rattle.rom_rule.specs.declared.views.View.{View}
use Rattle.rom_announce.proofs.Lists.{laid_more}
use Rattle.rom_announce.proofs.posting.store_arguments.Goals as goal

pub store_argument-requires-clause-next : goal.store_argument-requires-clause-next
store_argument-requires-clause-next g c = let now : c.loop-i.seat.token.me.0.laid ≡ length c.args.words.now ∷ take c.loop-i.i c.args.words.now = ap (λ (v : View). v.laid) c.loop-i.invariant.1 in
    let few = c.requires.few in let long = ap length now in (omega (arith, length-take c.loop-i.i c.args.words.now, c.loop-i-test.true, long), omega (arith, c.loop-i-test.true))

pub loop-i-preserved : goal.loop-i-preserved
loop-i-preserved g c = let v : View = c.args.seat.now.token.me.0 in let i : ℕ = c.loop-i.i in let words : List ℕ = c.args.words.now in let lt : i < length words = c.loop-i-test.true in (
  (let then = c.store_argument.ensures.same in let so = c.loop-i.invariant.0 in (then.0 ∙ so.0, then.1 ∙ so.1, then.2 ∙ so.2)),
  c.store_argument.ensures.stored ∙ (ap (λ (z : View). let y : View = record z { laid = take (1 + i) z.laid ++ get_or words i 0 ∷ []; steps = z.steps + 1 } in y) c.loop-i.invariant.1
      ∙ (λ k. record v { laid = laid_more (length words) words i lt k; steps = (let e : v.steps + i + 1 ≡ v.steps + (i + 1) = omega arith in e) k })),
)
