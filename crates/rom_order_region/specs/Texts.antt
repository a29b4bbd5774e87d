-- What a run of a program of an ordered index prints.
use Rattle.std.specs.Prelude.{ℕ, ◌^◌, ◌<◌, List, ◌++◌, codes, decimal}
use Rattle.rom_text.specs.Text.{ShownText, Texts, texts_of}
use Rattle.rom_order_region.specs.declared.call.OrderReply.{OrderReply}
use Rattle.rom_order_region.specs.declared.call.OrderReply.TheVariants as reply
use Rattle.rom_order_region.specs.declared.call.OrderAnswer.{OrderAnswer}
use Rattle.rom_order_region.specs.declared.call.OrderAnswer.TheVariants as answer

-- how a reply is printed
abbrev pub index_reply_text : OrderReply → List ℕ
index_reply_text (reply.Was v) = codes "was " ++ decimal v
index_reply_text reply.NoPrior = codes "none"
index_reply_text reply.Full = codes "full"

-- how the answer to a query is printed
abbrev pub index_answer_text : OrderAnswer → List ℕ
index_answer_text (answer.Value v) = codes "value " ++ decimal v
index_answer_text answer.Missing = codes "none"
index_answer_text (answer.Pair k v) = codes "pair " ++ decimal k ++ codes " " ++ decimal v
index_answer_text (answer.Range count sum) = codes "range " ++ decimal count ++ codes " sum " ++ decimal sum

-- the numbers of a reply are words
abbrev pub IndexReplyFits : OrderReply → Type 0
IndexReplyFits (reply.Was v) = v < 2 ^ 64
IndexReplyFits reply.NoPrior = Unit {0}
IndexReplyFits reply.Full = Unit {0}

-- those of an answer are, and a sum has at most 128 bits
abbrev pub IndexAnswerFits : OrderAnswer → Type 0
IndexAnswerFits (answer.Value v) = v < 2 ^ 64
IndexAnswerFits answer.Missing = Unit {0}
IndexAnswerFits (answer.Pair k v) = (k < 2 ^ 64) × (v < 2 ^ 64)
IndexAnswerFits (answer.Range count sum) = (count < 2 ^ 64) × (sum < 2 ^ 128)

-- the text of a reply, and which numbers it may have
abbrev pub shown_index_reply : ShownText OrderReply
shown_index_reply = record { text = index_reply_text; Fits = IndexReplyFits }

-- the text of an answer, and which numbers it may have
abbrev pub shown_index_answer : ShownText OrderAnswer
shown_index_answer = record { text = index_answer_text; Fits = IndexAnswerFits }

-- the texts of a run whose replies and answers are printed so
abbrev pub index_texts : Texts OrderReply OrderAnswer
index_texts = texts_of shown_index_reply shown_index_answer
