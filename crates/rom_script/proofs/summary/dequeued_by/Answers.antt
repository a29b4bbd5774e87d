use Rattle.std.proofs.Common.{subst}
use Rattle.rom_lines.specs.Replies.{SaysResult}
use Rattle.rom_model.specs.Codes.{words_reply}
use Rattle.rom_script.proofs.Queued.{no_head}
use Rattle.rom_script.proofs.summary.dequeued_by.Goals as goal

pub returns-in_default-single_reply-2 : goal.returns-in_default-single_reply-2
returns-in_default-single_reply-2 c became told =
    let said = subst (SaysResult words_reply became) c.in-Done.is told in
    no_head became c.in-Done.reply.now c.in-Done.field-1 (said.0, said.1, said.2) c.single_reply.result c.single_reply.ensures.none c.in_default-single_reply.is
