use Rattle.std.proofs.Common.{rules, arith, ◌≡◌, ℕ, ◌+◌, ◌<◌, List, [], ◌∷◌, ◌++◌, take, length, get_or, sym, refl, ap, ◌∙◌, subst, length-take, Some}
use Rattle.rom_announce.specs.Answering.{with_reply}
use Rattle.rom_rule.specs.CallKinds.{IsPending, altered, laying}
use Rattle.rom_rule.specs.Views.{plan_of}
use Rattle.rom_rule.specs.declared.views.Plan.{Plan}
use Rattle.rom_rule.specs.declared.views.Request.{Request}
use Rattle.rom_rule.specs.declared.views.View.{View}
use Rattle.rom_announce.proofs.Lists.{laid_more}
use Rattle.rom_announce.proofs.Altered.{altered_twice, pending_on, writes_chain}
use Rattle.std.proofs.lemmas.Option.{get_or_from_slice_get}
use Rattle.rom_announce.proofs.answering.store_reply.Goals as goal

pub loop-i-init : goal.loop-i-init
loop-i-init g c = let v : View = c.args.seat.now.token.me.0 in let r = c.requires.found in let ws : List ℕ = length c.args.reply.now ∷ [] in
    let same : plan_of v ≡ altered c.args.caller (with_reply ws) (plan_of v)
    = r.3 ∙ (sym (altered_twice c.args.caller (with_reply ws) (with_reply ws) r.0 (λ _. refl)) ∙ ap (altered c.args.caller (with_reply ws)) (sym r.3)) in
    (search rules, (refl, refl, (λ i. record v { plan = (c.args.seat.now.writes ∙ ap Some same) i; steps = v.steps })))

pub store_word-requires-clause-found : goal.store_word-requires-clause-found
store_word-requires-clause-found g c = let r = c.requires.found in let u : View = c.args.seat.now.token.me.0 in let i : ℕ = c.loop-i.i in let ws : List ℕ = length c.args.reply.now ∷ take i c.args.reply.now in let lt = c.loop-i-test.true in
    let first : List ℕ = length c.args.reply.now ∷ [] in let f : Request = r.1 in
    let here : IsPending (plan_of u) c.args.caller (with_reply first f) = subst (λ (p : Plan). IsPending p c.args.caller (with_reply first f)) (sym r.3) (pending_on c.args.caller (with_reply first) r.0 f refl refl r.2) in
    let now : plan_of c.loop-i.seat.token.me.0 ≡ altered c.args.caller (with_reply ws) (plan_of u) = ap plan_of c.loop-i.invariant.1.2 in (
      with_reply ws f,
      subst (λ (p : Plan). IsPending p c.args.caller (with_reply ws f)) (sym now) (pending_on c.args.caller (with_reply ws) (plan_of u) (with_reply first f) refl refl here),
      omega (arith, length-take i c.args.reply.now, lt),
    )

pub loop-i-preserved : goal.loop-i-preserved
loop-i-preserved g c = let u : View = c.args.seat.now.token.me.0 in let v : View = c.loop-i.seat.token.me.0 in let w : View = c.store_word.new.seat.token.me.0 in let i : ℕ = c.loop-i.i in let reply : List ℕ = c.args.reply.now in let x : ℕ = c.unwrap.result in
    let ws : List ℕ = length reply ∷ take i reply in let lt : i < length reply = omega (arith, c.loop-i-test.true) in let inv = c.loop-i.invariant in
    let word : x ≡ get_or reply i 0 = sym (get_or_from_slice_get reply i x 0 (sym c.at.ensures ∙ c.unwrap.ensures)) in
    let now : plan_of v ≡ altered c.args.caller (with_reply ws) (plan_of u) = ap plan_of inv.1.2 in
    let longer : take (1 + i) ws ++ x ∷ [] ≡ length reply ∷ take (i + 1) reply = ap (λ (y : ℕ). take (1 + i) ws ++ y ∷ []) word ∙ laid_more (length reply) reply i lt in
    let plan : altered c.args.caller (laying (1 + i) x) (plan_of v) ≡ altered c.args.caller (with_reply (length reply ∷ take (i + 1) reply)) (plan_of u)
    = ap (altered c.args.caller (laying (1 + i) x)) now ∙ (altered_twice c.args.caller (laying (1 + i) x) (with_reply ws) (plan_of u) (λ _. refl) ∙ ap (λ (l : List ℕ). altered c.args.caller (with_reply l) (plan_of u)) longer) in (
      (let step = c.store_word.ensures.step in let so = inv.0 in omega arith),
      (
        c.store_word.ensures.stored.0 ∙ inv.1.0,
        c.store_word.ensures.stored.1 ∙ inv.1.1,
        writes_chain u v w (altered c.args.caller (with_reply ws) (plan_of u)) (altered c.args.caller (with_reply (length reply ∷ take (i + 1) reply)) (plan_of u)) inv.1.2
            (subst (λ (z : Plan). w ≡ record v { plan = Some z; steps = w.steps }) plan c.store_word.ensures.stored.2),
      ),
    )
