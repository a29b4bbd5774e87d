use Rattle.std.proofs.Common.{IsSome, ◌≡◌, ◌+◌, ℕ, List, ◌++◌, ◌∷◌, [], length, map, take, refl, sym, ap, ◌∙◌, arith, subst, length-append}
use Rattle.std.proofs.lemmas.List.{map-append}
use Rattle.std.specs.List.{AllByRecursion}
use Rattle.rom_rule.proofs.Told.{all_append}
use Rattle.rom_model.specs.Codes.{words_call}
use Rattle.rom_replica.specs.Turns.{applied}
use Rattle.rom_tail.specs.Batches.{call_in, many_next}
use Rattle.rom_tail.proofs.Counting.{applied_next, applied_other, one_more}
use Rattle.rom_tail.proofs.batch.next_calls.Goals as goal
use Rattle.rom_tail.proofs.batch.next_calls.Goals.{then-frame-next, else-frame-next}

pub loop-frame-preserved : goal.loop-frame-preserved
loop-frame-preserved c =
    let so = c.loop-frame.invariant in
    let n = c.args.count in
    let f = c.frame-item.result in
    let fs = take c.loop-frame.frame-index c.args.frames.now in
    let all = one_more c.args.frames.now c.loop-frame.frame-index f c.frame-item.is c.loop-frame-test.true in
    elim c.if-frame-next.branch [
      | then-frame-next w ↦
          let here : f.place ≡ n + many_next n fs = w.if-frame-next.true ∙ so.next in
          let more : applied n (take (c.loop-frame.frame-index + 1) c.args.frames.now) ≡ applied n fs ++ f ∷ [] = ap (applied n) all ∙ applied_next n fs f here in
          let long = ap length more ∙ length-append (applied n fs) (f ∷ []) in
          record {
            calls = ap (λ x. x.items) w.calls-is ∙ w.push.ensures ∙ (λ i. so.calls i ++ w.call_words.ensures.words i ∷ []) ∙ sym (map-append call_in (applied n fs) (f ∷ [])) ∙ sym (ap (map call_in) more);
            known = subst (λ (ws : List (List ℕ)). AllByRecursion (λ words. IsSome (words_call words)) ws) (sym (ap (λ x. x.items) w.calls-is ∙ w.push.ensures))
                (all_append (λ words. IsSome (words_call words)) c.loop-frame.calls.items (w.call_words.result ∷ []) so.known (subst IsSome (sym w.call_words.ensures.back) refl, tt));
            next = omega (arith, w.next-is, so.next, long);
            few = omega (arith, so.few, long);
          }
      | else-frame-next w ↦
          let more : applied n (take (c.loop-frame.frame-index + 1) c.args.frames.now) ≡ applied n fs = ap (applied n) all ∙ applied_other n fs f (λ is. w.if-frame-next.false (is ∙ sym so.next)) in
          let long = ap length more in
          record {
            calls = ap (λ x. x.items) w.calls-is ∙ so.calls ∙ sym (ap (map call_in) more);
            known = subst (λ (ws : List (List ℕ)). AllByRecursion (λ words. IsSome (words_call words)) ws) (sym (ap (λ x. x.items) w.calls-is)) so.known;
            next = omega (arith, w.next-is, so.next, long);
            few = omega (arith, so.few, long);
          }
    ]
