-- What is printed of results of a queue, a set and a map.
use Rattle.rom_model.specs.declared.call.Reply.{Reply}
use Rattle.rom_model.specs.declared.call.Answer.{Answer}
use Rattle.rom_text.specs.Text.{Texts, texts_of}
use Rattle.rom_text.specs.Trio.{shown_answer, shown_reply}
pub use Rattle.rom_text.specs.Trio.{AnswerFits, ReplyFits, answer_text, reply_text}

-- how replies and answers are printed
abbrev pub trio_texts : Texts Reply Answer
trio_texts = texts_of shown_reply shown_answer
