use Rattle.std.proofs.Common.{◌≡◌, List, ℕ, Option, Some, sym, ap, ◌∙◌}
use Rattle.std.specs.Prelude.{option_map}
use Rattle.rom_order_region.specs.State.{Pairs, index_step}
use Rattle.rom_order.specs.Codes.{index_call_from_words, index_reply_words}
use Rattle.rom_order_region.specs.declared.call.OrderCall.{OrderCall}
use Rattle.rom_order.proofs.index.OrderedObject.apply_words.Goals as goal

pub returns-clause-done : goal.returns-clause-done
returns-clause-done g c s k held =
    let call = c.unwrap-call.result in
    let after = index_step c.args.order s k call in
    let is : index_call_from_words c.args.words.now ≡ Some call = sym c.words_call.ensures ∙ c.unwrap-call.ensures in
    let done = c.apply_order.ensures.done s k held in
    let told : c.put_reply_words.new.words ≡ index_reply_words after.1 = c.put_reply_words.ensures.words ∙ ap index_reply_words done.0 in
    let did : Option OrderCall → Option (Pairs × List ℕ) = option_map (λ call. let done = index_step c.args.order s k call in (done.0, index_reply_words done.1)) in
    (after.0, ap did is ∙ ap (λ ws. Some (after.0, ws)) (sym told), done.1)
