use Rattle.std.proofs.Common.{◌≡◌, sym, ap, ◌∙◌, Some, None, List, ℕ}
use Rattle.std.specs.Prelude.{Option, IfSome, IfNone}
use Rattle.rom_model.specs.declared.call.Reply.{Reply}
use Rattle.rom_model.specs.Groups.{HasFewReplies}
use Rattle.rom_model.specs.Singles.{reply_kind}
use Rattle.rom_model.specs.Codes.{words_reply, reply_words}
use Rattle.rom_model.proofs.Tags.{reply_only, coded_reply}
use Rattle.rom_model.proofs.codes.words_reply.Goals as goal

only : (words : List ℕ) (o : Option Reply) → o ≡ words_reply words → IfSome o (λ x. words ≡ reply_words x)
only words (Some x) is = sym (reply_only words x (sym is))
only words None is = tt

none : (words : List ℕ) (o : Option Reply) → o ≡ words_reply words → IfNone o ((x : Reply) → HasFewReplies (reply_kind x) → words ≡ reply_words x → ⊥)
none words (Some x) is = tt
none words None is = λ x size same. absurd (let never : None ≡ Some x = is ∙ (ap words_reply same ∙ coded_reply x size) in cc)

pub returns : goal.returns
returns c =
    let is = c.read_reply.ensures ∙ ap words_reply c.as_slice.ensures.words in
    record { reply = is; only = only c.args.words.now c.read_reply.result is; none = none c.args.words.now c.read_reply.result is }
