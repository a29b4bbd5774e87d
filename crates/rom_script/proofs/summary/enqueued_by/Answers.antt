use Rattle.std.proofs.Common.{Some, ap, subst, sym, ◌∙◌}
use Rattle.rom_lines.specs.Replies.{SaysResult}
use Rattle.rom_lines.specs.Steps.{IsLine}
use Rattle.rom_model.specs.Codes.{words_call, words_reply}
use Rattle.rom_script.proofs.Queued.{not_queued, queued}
use Rattle.rom_script.proofs.summary.enqueued_by.Goals as goal

pub returns-in-Some-Queued : goal.returns-in-Some-Queued
returns-in-Some-Queued c asks became line told =
    let asked = subst (IsLine words_call asks) c.in-Update.is line in
    let said = subst (SaysResult words_reply became) c.in-Done.is told in
    let first = ap Some (sym c.in-Some-Enq.field-0-is) ∙ (sym c.in-Some-Enq.is ∙ c.first_single.ensures) in
    queued became c.in-Done.reply.now c.in-Done.field-1 (said.0, said.1, said.2) c.single_reply.result asks c.in-Update.call.now (asked.0, asked.1, asked.2) c.in-Some-Enq.v first
    c.single_reply.ensures.some (c.in-Some-Queued.is ∙ ap Some c.in-Some-Queued.field-0-is)

pub returns-in_default-single_reply-2 : goal.returns-in_default-single_reply-2
returns-in_default-single_reply-2 c asks became line told =
    let asked = subst (IsLine words_call asks) c.in-Update.is line in
    let said = subst (SaysResult words_reply became) c.in-Done.is told in
    let first = ap Some (sym c.in-Some-Enq.field-0-is) ∙ (sym c.in-Some-Enq.is ∙ c.first_single.ensures) in
    not_queued became c.in-Done.reply.now c.in-Done.field-1 (said.0, said.1, said.2) c.single_reply.result asks c.in-Update.call.now (asked.0, asked.1, asked.2) c.in-Some-Enq.v first
    c.single_reply.ensures.none c.in_default-single_reply.is
