use Rattle.std.proofs.Common.{sym, ◌∙◌}
use Rattle.rom_model.specs.State.{step}
use Rattle.rom_heap.proofs.Worded.{call_done}
use Rattle.rom_heap.proofs.apply.apply_whole.Goals as goal

pub returns-clause-done : goal.returns-clause-done
returns-clause-done g c s k held =
    let n = c.args.order in
    let call = c.unwrap-call.result in
    let is = sym c.words_call.ensures.call ∙ c.unwrap-call.ensures in
    let done = c.apply-reply.ensures.done s k held in
    ((step n s k call).0, call_done c.args.words.now call is n s k c.apply-reply.result c.put_reply_words.new.words done.0 c.put_reply_words.ensures.words, done.1)
