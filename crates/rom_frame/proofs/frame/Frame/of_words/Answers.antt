use Rattle.std.proofs.Common.{◌≡◌, ℕ, List, Some, None, sym, ap, ◌∙◌, arith, length}
use Rattle.std.specs.Prelude.{slice_index}
use Rattle.std.proofs.lemmas.Option.{same_Some}
use Rattle.rom_model.specs.Codes as codes
use Rattle.rom_model.proofs.Tags.{call_back, coded_reply}
use Rattle.rom_frame.proofs.Coded.{call_there, length-words_of, reply_there, words_short}
use Rattle.rom_frame.proofs.frame.Frame.of_words.Goals as goal
use Rattle.rom_frame.proofs.frame.Frame.of_words.Goals.{then-words-lt4-via-then-words-lt4, then-words-lt4-via-else-words-lt4+then-words-gt40}

pub returns-then-words-lt4 : goal.returns-then-words-lt4
returns-then-words-lt4 c f small is = elim c.then-words-lt4.branch [
  | then-words-lt4-via-then-words-lt4 w ↦ grind (arith, ap length is, length-words_of f)
  | then-words-lt4-via-else-words-lt4+then-words-gt40 w ↦ grind (arith, is, words_short f small)
]

pub returns-then-words-middle : goal.returns-then-words-middle
returns-then-words-middle c f small is = grind (arith, is, ap length is, length-words_of f, words_short f small)

pub returns-in_err-reply : goal.returns-in_err-reply
returns-in_err-reply c f small is =
    let there : c.of-2.result ≡ codes.reply_words f.reply = c.of-2.ensures ∙ reply_there f c.args.words.now is in
    let some : c.words_reply.result ≡ Some f.reply = c.words_reply.ensures.reply ∙ ap codes.words_reply there ∙ coded_reply f.reply small.replies in
    let none : Some f.reply ≡ None = sym some ∙ c.in_err-reply.was in
    cc

pub returns : goal.returns
returns c f small is =
    let words : c.of.result ≡ codes.call_words f.call = c.of.ensures ∙ call_there f c.args.words.now is in
    let some : c.words_call.result ≡ Some f.call = c.words_call.ensures.call ∙ ap codes.words_call words ∙ call_back f.call small.members in
    let call : c.in_ok-call.call ≡ f.call = same_Some _ _ (sym c.in_ok-call.was ∙ some) in
    let words_2 : c.of-2.result ≡ codes.reply_words f.reply = c.of-2.ensures ∙ reply_there f c.args.words.now is in
    let some_2 : c.words_reply.result ≡ Some f.reply = c.words_reply.ensures.reply ∙ ap codes.words_reply words_2 ∙ coded_reply f.reply small.replies in
    let reply : c.in_ok-reply.reply ≡ f.reply = same_Some _ _ (sym c.in_ok-reply.was ∙ some_2) in
    let place : slice_index c.args.words.now 1 ≡ f.place = ap (λ (xs : List ℕ). slice_index xs 1) is in
    λ i. Some record { place = place i; call = call i; reply = reply i }
