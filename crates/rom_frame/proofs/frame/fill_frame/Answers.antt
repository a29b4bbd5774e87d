use Rattle.std.proofs.Common.{◌≡◌, ◌<◌, ◌^◌, ap, sym, ◌∙◌, subst}
use Rattle.std.specs.Prelude.{All}
use Rattle.rom_model.specs.Codes.{call_words, reply_words, words_reply}
use Rattle.rom_model.proofs.Tags.{call_only, has_size, reply_only}
use Rattle.rom_frame.specs.Frames.{bytes_of, frame_words, words_of_frame}
use Rattle.rom_frame.proofs.Coded.{few_read}
use Rattle.rom_frame.proofs.frame.fill_frame.Goals as goal

pub returns-clause-frame : goal.returns-clause-frame
returns-clause-frame c = λ f place call reply.
    let args : call_words f.call ≡ c.args.args.now = call_only c.args.args.now f.call call in
    let told : reply_words f.reply ≡ c.args.reply.now = reply_only c.args.reply.now f.reply reply in
    let is : c.as_slice.result.now ≡ words_of_frame f = c.as_slice.ensures.words ∙ (c.words_of.ensures ∙ sym (λ i. frame_words (place i) (args i) (told i))) in (
      c.put.ensures.bytes ∙ ap bytes_of is,
      record {
        words = subst (All (λ w. w < 2 ^ 64)) is c.put.ensures.small;
        members = has_size c.args.args.now f.call call;
        replies = few_read f.reply (ap words_reply told ∙ reply);
      },
    )

pub returns-clause-bytes : goal.returns-clause-bytes
returns-clause-bytes c = c.put.ensures.bytes ∙ ap bytes_of (c.as_slice.ensures.words ∙ c.words_of.ensures)
