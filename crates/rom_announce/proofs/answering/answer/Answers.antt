use Rattle.rom_model.specs.Machine.{on_words}
use Rattle.std.proofs.Common.{arith, ◌≡◌, ℕ, List, [], ◌∷◌, sym, refl, ap, ◌∙◌, subst, Some}
use Rattle.rom_announce.specs.Answering.{answered_with, fate_of_place, with_reply}
use Rattle.rom_rule.specs.CallKinds.{IsAnswerToRequest, IsPending, altered, answering, placing}
use Rattle.rom_rule.specs.Calls.{packed}
use Rattle.rom_rule.specs.Views.{plan_of}
use Rattle.rom_rule.specs.declared.views.Plan.{Plan}
use Rattle.rom_rule.specs.declared.views.Request.{Request}
use Rattle.rom_rule.specs.declared.views.View.{View}
use Rattle.rom_announce.proofs.Altered.{altered_twice, pending_on, writes_chain}
use Rattle.rom_announce.proofs.Recording.{pending_in, answer_in}
use Rattle.rom_announce.proofs.answering.answer.Goals as goal

pub store_reply-requires-clause-found : goal.store_reply-requires-clause-found
store_reply-requires-clause-found g c = let found = c.requires.found in let begun = c.begin.ensures.begun in (
  begun.0,
  found.0,
  pending_in g.O.Object.Contents (on_words g.O.Object.machine) c.args.seat.now.token.me.0.base (plan_of c.args.seat.now.token.me.0) (fate_of_place c.args.place) c.args.before c.args.after begun.0 c.args.caller found.0 begun.1 found.1,
  ap plan_of begun.2.2 ∙ ap (λ (n : ℕ). altered c.args.caller (with_reply (n ∷ [])) begun.0) c.len.ensures.many,
)

pub store_place-requires-clause-found : goal.store_place-requires-clause-found
store_place-requires-clause-found g c = let found = c.requires.found in let begun = c.begin.ensures.begun in let n : ℕ = c.len.result in let ws : List ℕ = packed c.args.reply.now in let f : Request = found.0 in let q : Plan = begun.0 in
    let here : IsPending q c.args.caller f = pending_in g.O.Object.Contents (on_words g.O.Object.machine) c.args.seat.now.token.me.0.base (plan_of c.args.seat.now.token.me.0) (fate_of_place c.args.place) c.args.before c.args.after q c.args.caller f begun.1 found.1 in
    let first : IsPending (plan_of c.begin.new.seat.token.me.0) c.args.caller (with_reply (n ∷ []) f) = subst (λ (p : Plan). IsPending p c.args.caller (with_reply (n ∷ []) f)) (sym (ap plan_of begun.2.2)) (pending_on c.args.caller (with_reply (n ∷ [])) q f refl refl here) in (
      with_reply ws f,
      subst (λ (p : Plan). IsPending p c.args.caller (with_reply ws f)) (sym (ap plan_of c.store_reply.ensures.stored.2)) (pending_on c.args.caller (with_reply ws) (plan_of c.begin.new.seat.token.me.0) (with_reply (n ∷ []) f) refl refl first),
    )

pub finish-requires-clause-found : goal.finish-requires-clause-found
finish-requires-clause-found g c = let found = c.requires.found in let begun = c.begin.ensures.begun in let n : ℕ = c.len.result in let ws : List ℕ = packed c.args.reply.now in let f : Request = found.0 in let q : Plan = begun.0 in let place : ℕ = c.args.place in
    let here : IsPending q c.args.caller f = pending_in g.O.Object.Contents (on_words g.O.Object.machine) c.args.seat.now.token.me.0.base (plan_of c.args.seat.now.token.me.0) (fate_of_place c.args.place) c.args.before c.args.after q c.args.caller f begun.1 found.1 in
    let told = answer_in g.O.Object.Contents (on_words g.O.Object.machine) c.args.seat.now.token.me.0.base (plan_of c.args.seat.now.token.me.0) (fate_of_place c.args.place) c.args.before c.args.after q c.args.caller f place c.args.reply.now begun.1 found.1 found.2.0 found.2.1 in
    let one : plan_of c.begin.new.seat.token.me.0 ≡ altered c.args.caller (with_reply (n ∷ [])) q = ap plan_of begun.2.2 in
    let two : plan_of c.store_reply.new.seat.token.me.0 ≡ altered c.args.caller (with_reply ws) (altered c.args.caller (with_reply (n ∷ [])) q) = ap plan_of c.store_reply.ensures.stored.2 ∙ ap (altered c.args.caller (with_reply ws)) one in
    let three : plan_of c.store_place.new.seat.token.me.0 ≡ altered c.args.caller (placing place) (altered c.args.caller (with_reply ws) (altered c.args.caller (with_reply (n ∷ [])) q)) = ap plan_of c.store_place.ensures.stored.2 ∙ ap (altered c.args.caller (placing place)) two in
    let pending : IsPending (altered c.args.caller (placing place) (altered c.args.caller (with_reply ws) (altered c.args.caller (with_reply (n ∷ [])) q))) c.args.caller (placing place (with_reply ws f))
    = pending_on c.args.caller (placing place) (altered c.args.caller (with_reply ws) (altered c.args.caller (with_reply (n ∷ [])) q)) (with_reply ws f) refl refl (pending_on c.args.caller (with_reply ws) (altered c.args.caller (with_reply (n ∷ [])) q) (with_reply (n ∷ []) f) refl refl (pending_on c.args.caller (with_reply (n ∷ [])) q f refl refl here)) in (
      placing place (with_reply ws f),
      told.0,
      place,
      found.1.2,
      (
        (let p = subst (λ (p : Plan). IsPending p c.args.caller (placing place (with_reply ws f))) (sym three) pending in (p.0, p.1, refl, p.3)),
        subst (λ (p : Plan). IsAnswerToRequest p (placing place (with_reply ws f)) told.0) (sym three) told.1,
        refl,
        sym told.2,
      ),
    )

pub returns : goal.returns
returns g c = let begun = c.begin.ensures.begun in let n : ℕ = c.len.result in let ws : List ℕ = packed c.args.reply.now in let q : Plan = begun.0 in let place : ℕ = c.args.place in let who : ℕ = c.args.caller in
    let v₀ : View = c.args.seat.now.token.me.0 in let v₁ : View = c.begin.new.seat.token.me.0 in let v₂ : View = c.store_reply.new.seat.token.me.0 in let v₃ : View = c.store_place.new.seat.token.me.0 in let v₄ : View = c.finish.new.seat.token.me.0 in
    let a = c.store_reply.ensures.stored in let b = c.store_place.ensures.stored in let d = c.finish.ensures.answered in
    let one : plan_of v₁ ≡ altered who (with_reply (n ∷ [])) q = ap plan_of begun.2.2 in
    let two : plan_of v₂ ≡ altered who (with_reply ws) q = ap plan_of a.2 ∙ (ap (altered who (with_reply ws)) one ∙ altered_twice who (with_reply ws) (with_reply (n ∷ [])) q (λ _. refl)) in
    let three : plan_of v₃ ≡ altered who (λ f. placing place (with_reply ws f)) q = ap plan_of b.2 ∙ (ap (altered who (placing place)) two ∙ altered_twice who (placing place) (with_reply ws) q (λ _. refl)) in
    let four : altered who answering (plan_of v₃) ≡ altered who (answered_with place ws) q = ap (altered who answering) three ∙ altered_twice who answering (λ f. placing place (with_reply ws f)) q (λ _. refl) in
    let w₂ = writes_chain v₀ v₁ v₂ (altered who (with_reply (n ∷ [])) q) (altered who (with_reply ws) (plan_of v₁)) begun.2.2 a.2 in
    let w₃ = writes_chain v₀ v₂ v₃ (altered who (with_reply ws) (plan_of v₁)) (altered who (placing place) (plan_of v₂)) w₂ b.2 in
    let w₄ = writes_chain v₀ v₃ v₄ (altered who (placing place) (plan_of v₂)) (altered who answering (plan_of v₃)) w₃ d.2 in record {
      answered = (q, begun.1, (d.0 ∙ (b.0 ∙ (a.0 ∙ begun.2.0)), d.1 ∙ (b.1 ∙ (a.1 ∙ begun.2.1)), subst (λ (z : Plan). v₄ ≡ record v₀ { plan = Some z; steps = v₄.steps }) four w₄));
      steps = let i = c.begin.ensures.step in let j = c.store_reply.ensures.steps in let k = c.store_place.ensures.step in let l = c.finish.ensures.step in omega arith;
    }
