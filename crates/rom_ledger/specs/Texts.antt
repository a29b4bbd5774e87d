-- The texts of replies.
use Rattle.std.specs.Prelude.{ℕ, ◌^◌, ◌<◌, List, ◌++◌, codes, decimal}
use Rattle.rom_model.specs.declared.call.Answer.{Answer}
use Rattle.rom_text.specs.Text.{ShownText, Texts, texts_of}
use Rattle.rom_text.specs.Trio as heap
use Rattle.rom_guard.specs.Texts.{shown_guarded}
use Rattle.rom_guard.specs.declared.call.GuardedReply.{GuardedReply}
use Rattle.rom_ledger.specs.declared.call.LedgerTold.{LedgerTold}
use Rattle.rom_ledger.specs.declared.call.LedgerTold.TheVariants as told
use Rattle.rom_ledger.specs.declared.call.LedgerReply.{LedgerReply}
use Rattle.rom_ledger.specs.declared.call.LedgerReply.TheVariants as answer

-- the text of what an update of one structure is told
abbrev pub told_text : LedgerTold → List ℕ
told_text (told.Heap r) = heap.single_text r
told_text (told.Other v) = codes "other " ++ decimal v

-- its numbers are words
abbrev pub ToldFits : LedgerTold → Type 0
ToldFits (told.Heap r) = heap.SingleFits r
ToldFits (told.Other v) = v < 2 ^ 64

-- the text of a reply
abbrev pub ledger_reply_text : LedgerReply → List ℕ
ledger_reply_text (answer.Heap r) = heap.reply_text r
ledger_reply_text (answer.Other v) = codes "other " ++ decimal v

-- its numbers are words
abbrev pub LedgerReplyFits : LedgerReply → Type 0
LedgerReplyFits (answer.Heap r) = heap.ReplyFits r
LedgerReplyFits (answer.Other v) = v < 2 ^ 64

-- how what an update of one structure is told is printed
abbrev pub shown_told : ShownText LedgerTold
shown_told = record { text = told_text; Fits = ToldFits }

-- how a reply to a call without a guarded group is printed
abbrev pub shown_ledger_reply : ShownText LedgerReply
shown_ledger_reply = record { text = ledger_reply_text; Fits = LedgerReplyFits }

-- how replies and answers are printed
abbrev pub ledger_texts : Texts (GuardedReply LedgerReply LedgerTold (List LedgerTold)) Answer
ledger_texts = texts_of (shown_guarded shown_ledger_reply shown_told) heap.shown_answer
