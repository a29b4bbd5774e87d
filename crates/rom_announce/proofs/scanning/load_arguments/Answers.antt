use Rattle.rom_model.specs.Machine.{on_words}
use Rattle.std.proofs.Common.{rules, arith, ◌≡◌, ℕ, ◌+◌, List, [], ◌∷◌, ◌++◌, take, length, sym, refl, ap, ◌∙◌, subst, length-append, Some}
use Rattle.rom_announce.specs.Scanning.{with_words}
use Rattle.rom_rule.specs.CallKinds.{IsPending, altered, loading}
use Rattle.rom_rule.specs.Records.{IsCall}
use Rattle.rom_rule.specs.Views.{plan_of}
use Rattle.rom_rule.specs.declared.views.Base.{Base}
use Rattle.rom_rule.specs.declared.views.Plan.{Plan}
use Rattle.rom_rule.specs.declared.views.Request.{Request}
use Rattle.rom_rule.specs.declared.views.View.{View}
use Rattle.rom_announce.proofs.Lists.{all_more, on_true}
use Rattle.rom_announce.proofs.Altered.{altered_twice, pending_on, writes_chain}
use Rattle.rom_announce.proofs.scanning.load_arguments.Goals as goal

pub loop-i-init : goal.loop-i-init
loop-i-init g c = let v : View = c.args.seat.now.token.me.0 in let r = c.requires.found in let n : ℕ = c.args.count in let none : c.args.args.now ≡ [] = c.requires.empty in
    let same : plan_of v ≡ altered c.args.caller (with_words (n ∷ c.args.args.now)) (plan_of v)
    = r.3 ∙ (sym (altered_twice c.args.caller (with_words (n ∷ [])) (with_words (n ∷ [])) r.0 (λ _. refl)) ∙ (ap (altered c.args.caller (with_words (n ∷ []))) (sym r.3) ∙ ap (λ (l : List ℕ). altered c.args.caller (with_words (n ∷ l)) (plan_of v)) (sym none))) in (
      ap length none,
      (λ e. subst (IsCall (on_words g.O.Object.machine) v.base) (sym none) (c.requires.none (sym e))),
      search rules,
      (refl, refl, (λ i. record v { plan = (c.args.seat.now.writes ∙ ap Some same) i; steps = v.steps })),
    )

pub load_argument-word-requires-clause-found : goal.load_argument-word-requires-clause-found
load_argument-word-requires-clause-found g c = let r = c.requires.found in let u : View = c.args.seat.now.token.me.0 in let i : ℕ = c.loop-i.i in let ws : List ℕ = c.args.count ∷ c.loop-i.args in let lt = c.loop-i-test.true in
    let f : Request = r.1 in let here : IsPending (plan_of u) c.args.caller (with_words (c.args.count ∷ []) f) = subst (λ (p : Plan). IsPending p c.args.caller (with_words (c.args.count ∷ []) f)) (sym r.3) (pending_on c.args.caller (with_words (c.args.count ∷ [])) r.0 f refl refl r.2) in
    let now : plan_of c.loop-i.seat.token.me.0 ≡ altered c.args.caller (with_words ws) (plan_of u) = ap plan_of c.loop-i.invariant.3.2 in let many = c.loop-i.invariant.0 in (
      with_words ws f,
      subst (λ (p : Plan). IsPending p c.args.caller (with_words ws f)) (sym now) (pending_on c.args.caller (with_words ws) (plan_of u) (with_words (c.args.count ∷ []) f) refl refl here),
      omega arith,
      λ _. omega arith,
    )

pub loop-i-preserved : goal.loop-i-preserved
loop-i-preserved g c = let r = c.requires.found in let u : View = c.args.seat.now.token.me.0 in let v : View = c.loop-i.seat.token.me.0 in let w : View = c.load_argument-word.new.seat.token.me.0 in let i : ℕ = c.loop-i.i in let n : ℕ = c.args.count in let args : List ℕ = c.loop-i.args in let x : ℕ = c.load_argument-word.result in
    let ws : List ℕ = n ∷ args in let lt = c.loop-i-test.true in let f : Request = r.1 in let inv = c.loop-i.invariant in let many = inv.0 in let few = c.requires.within.2 in
    let here : IsPending (plan_of u) c.args.caller (with_words (n ∷ []) f) = subst (λ (p : Plan). IsPending p c.args.caller (with_words (n ∷ []) f)) (sym r.3) (pending_on c.args.caller (with_words (n ∷ [])) r.0 f refl refl r.2) in
    let now : plan_of v ≡ altered c.args.caller (with_words ws) (plan_of u) = ap plan_of inv.3.2 in
    let pending : IsPending (plan_of v) c.args.caller (with_words ws f) = subst (λ (p : Plan). IsPending p c.args.caller (with_words ws f)) (sym now) (pending_on c.args.caller (with_words ws) (plan_of u) (with_words (n ∷ []) f) refl refl here) in
    let longer : take (1 + i) ws ++ x ∷ [] ≡ n ∷ (args ++ x ∷ []) = all_more n x i args many in
    let pushed : c.push.new.self ≡ args ++ x ∷ [] = on_true c.push.result (c.push.new.self ≡ args ++ x ∷ []) (c.push.ensures.room.1 (omega arith)) c.push.ensures.added in
    let base : v.base ≡ u.base = ap (λ (z : View). z.base) inv.3.2 in let more = length-append args (x ∷ []) in
    let plan : altered c.args.caller (loading (1 + i) x) (plan_of v) ≡ altered c.args.caller (with_words (n ∷ c.push.new.self)) (plan_of u)
    = ap (altered c.args.caller (loading (1 + i) x)) now ∙ (altered_twice c.args.caller (loading (1 + i) x) (with_words ws) (plan_of u) (λ _. refl) ∙ ap (λ (l : List ℕ). altered c.args.caller (with_words l) (plan_of u)) (longer ∙ ap (λ (l : List ℕ). n ∷ l) (sym pushed))) in (
      omega (arith, ap length pushed, more),
      (λ e. subst (λ (z : Base × List ℕ). IsCall (on_words g.O.Object.machine) z.0 z.1) (λ k. (base k, sym pushed k))
          (c.load_argument-word.ensures.call (with_words ws f) (args ++ x ∷ []) pending (longer ∙ ap (λ (m : ℕ). m ∷ (args ++ x ∷ [])) (let z : n ≡ length (args ++ x ∷ []) = omega arith in z)))),
      (let step = c.load_argument-word.ensures.step in let so = inv.2 in omega arith),
      (
        c.load_argument-word.ensures.loaded.0 ∙ inv.3.0,
        c.load_argument-word.ensures.loaded.1 ∙ inv.3.1,
        writes_chain u v w (altered c.args.caller (with_words ws) (plan_of u)) (altered c.args.caller (with_words (n ∷ c.push.new.self)) (plan_of u)) inv.3.2
            (subst (λ (z : Plan). w ≡ record v { plan = Some z; steps = w.steps }) plan c.load_argument-word.ensures.loaded.2),
      ),
    )
