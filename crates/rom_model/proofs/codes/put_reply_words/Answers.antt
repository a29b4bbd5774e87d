use Rattle.std.proofs.Common.{sym, ap, ◌∙◌, Some}
use Rattle.rom_model.specs.Codes.{words_reply}
use Rattle.rom_model.proofs.Tags.{replies_back, several_reply}
use Rattle.rom_model.proofs.codes.put_reply_words.Goals as goal

pub returns-in-Several-clause-back : goal.returns-in-Several-clause-back
returns-in-Several-clause-back c =
    let done = c.put_replies_words.ensures in
    ap words_reply done.words ∙ (replies_back c.in-Several.replies done.size ∙ ap Some (several_reply c.args.reply.now c.in-Several.replies (sym c.kind.ensures ∙ c.in-Several.is)))
