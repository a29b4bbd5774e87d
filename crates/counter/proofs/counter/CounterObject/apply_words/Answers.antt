use Rattle.std.proofs.Common.{◌≡◌, ◌++◌, [], ◌∷◌, List, ℕ, Option, Some, sym, ap, ◌∙◌}
use Rattle.std.specs.Prelude.{option_map}
use Rattle.counter.specs.Counter.{add_from_words, counter}
use Rattle.counter.specs.declared.counter.Add.{Add}
use Rattle.counter.specs.declared.counter.Sum.{Sum}
use Rattle.counter.proofs.counter.CounterObject.apply_words.Goals as goal

pub returns-clause-done : goal.returns-clause-done
returns-clause-done g c s k held =
    let call = c.unwrap-call.result in
    let sum = c.apply-sum.result in
    let after = counter.step c.args.order s k call in
    let is : add_from_words c.args.words.now ≡ Some call = sym c.words_call.ensures.call ∙ c.unwrap-call.ensures in
    let done = c.apply-sum.ensures.done s k held in
    let spelt : c.extend.new.self ≡ sum.value ∷ [] = c.extend.ensures ∙ ap (λ ws. ws ++ sum.value ∷ []) c.clear.ensures in
    let told : c.extend.new.self ≡ after.1.value ∷ [] = spelt ∙ ap (λ (sum : Sum). sum.value ∷ []) done.0 in
    let did : Option Add → Option (ℕ × List ℕ) = option_map (λ call. let done = counter.step c.args.order s k call in (done.0, counter.reply_words done.1)) in
    (after.0, ap did is ∙ ap (λ ws. Some (after.0, ws)) (sym told), done.1)
