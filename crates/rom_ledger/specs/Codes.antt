-- The words that stand for the calls and replies of a ledger. A tag comes first, then the numbers. The calls and replies of a queue, a set and a map have the words that they have there.
use Rattle.std.specs.Prelude.{ℕ, ◌==◌, nat_le, ◌&&◌, Bool, false, List, [], ◌∷◌, Option, Some, None, option_map, if◌then◌else◌}
use Rattle.rom_model.specs.Codes as heap
use Rattle.rom_model.specs.declared.call.Call.{Call}
use Rattle.rom_model.specs.declared.call.Reply.{Reply}
use Rattle.rom_model.specs.declared.call.Single.TheVariants.{Enq, Deq, Add, Rem, Put, Del, Move}
use Rattle.rom_model.specs.declared.call.SingleReply.TheVariants as reply
use Rattle.rom_ledger.specs.declared.call.Conditional.{Conditional}
use Rattle.rom_ledger.specs.declared.call.Conditional.TheVariants.{Inc, New, Cas, DeqIf}
use Rattle.rom_ledger.specs.declared.call.LedgerSingle.{LedgerSingle}
use Rattle.rom_ledger.specs.declared.call.LedgerSingle.TheVariants as single
use Rattle.rom_ledger.specs.declared.call.LedgerCall.{LedgerCall}
use Rattle.rom_ledger.specs.declared.call.LedgerCall.TheVariants as call
use Rattle.rom_ledger.specs.declared.call.LedgerTold.{LedgerTold}
use Rattle.rom_ledger.specs.declared.call.LedgerTold.TheVariants as told
use Rattle.rom_ledger.specs.declared.call.LedgerReply.{LedgerReply}
use Rattle.rom_ledger.specs.declared.call.LedgerReply.TheVariants as answer

-- the words of a conditional update
abbrev pub conditional_words : Conditional → List ℕ
conditional_words (Inc k d) = 9 ∷ k ∷ d ∷ []
conditional_words (New k v) = 10 ∷ k ∷ v ∷ []
conditional_words (Cas k u v) = 11 ∷ k ∷ u ∷ v ∷ []
conditional_words (DeqIf v) = 12 ∷ v ∷ []

-- the conditional update that the words are those of
abbrev pub words_conditional : List ℕ → Option Conditional
words_conditional (tag ∷ v ∷ []) = if tag == 12 then Some (DeqIf v) else None
words_conditional (tag ∷ k ∷ v ∷ []) = if tag == 9 then Some (Inc k v) else if tag == 10 then Some (New k v) else None
words_conditional (tag ∷ k ∷ u ∷ v ∷ []) = if tag == 11 then Some (Cas k u v) else None
words_conditional words = None

-- whether the first of the words is the tag of a conditional update
abbrev pub is_tagged : List ℕ → Bool
is_tagged [] = false
is_tagged (tag ∷ rest) = nat_le 9 tag && nat_le tag 12

-- the words of a call
abbrev pub ledger_call_words : LedgerCall → List ℕ
ledger_call_words (call.Heap c) = heap.call_words c
ledger_call_words (call.Conditional c) = conditional_words c

-- a conditional update where there is one, or else what the heap reads
abbrev pub call_or : Option Conditional → Option Call → Option LedgerCall
call_or (Some c) other = Some (call.Conditional c)
call_or None other = option_map call.Heap other

-- the call that the words are those of
abbrev pub words_ledger_call : List ℕ → Option LedgerCall
words_ledger_call words = call_or (words_conditional words) (heap.words_call words)

-- the number that stands there in place of the one named
abbrev pub words_other : List ℕ → Option ℕ
words_other (tag ∷ v ∷ []) = if tag == 15 then Some v else None
words_other words = None

-- the words of a reply
abbrev pub ledger_reply_words : LedgerReply → List ℕ
ledger_reply_words (answer.Heap r) = heap.reply_words r
ledger_reply_words (answer.Other v) = 15 ∷ v ∷ []

-- another number where there is one, or else what the heap reads
abbrev pub reply_or : Option ℕ → Option Reply → Option LedgerReply
reply_or (Some v) other = Some (answer.Other v)
reply_or None other = option_map answer.Heap other

-- the reply that the words are those of
abbrev pub words_ledger_reply : List ℕ → Option LedgerReply
words_ledger_reply words = reply_or (words_other words) (heap.words_reply words)

-- the four words of a member: its tag and numbers, and 0 behind them
abbrev pub member_words : LedgerSingle → List ℕ
member_words (single.Heap (Enq v)) = 1 ∷ v ∷ 0 ∷ 0 ∷ []
member_words (single.Heap Deq) = 2 ∷ 0 ∷ 0 ∷ 0 ∷ []
member_words (single.Heap (Add k)) = 3 ∷ k ∷ 0 ∷ 0 ∷ []
member_words (single.Heap (Rem k)) = 4 ∷ k ∷ 0 ∷ 0 ∷ []
member_words (single.Heap (Put k v)) = 5 ∷ k ∷ v ∷ 0 ∷ []
member_words (single.Heap (Del k)) = 6 ∷ k ∷ 0 ∷ 0 ∷ []
member_words (single.Heap (Move a b d)) = 7 ∷ a ∷ b ∷ d ∷ []
member_words (single.Conditional (Inc k d)) = 9 ∷ k ∷ d ∷ 0 ∷ []
member_words (single.Conditional (New k v)) = 10 ∷ k ∷ v ∷ 0 ∷ []
member_words (single.Conditional (Cas k u v)) = 11 ∷ k ∷ u ∷ v ∷ []
member_words (single.Conditional (DeqIf v)) = 12 ∷ v ∷ 0 ∷ 0 ∷ []

-- the member that has this tag and no number
abbrev pub bare_member : ℕ → Option LedgerSingle
bare_member tag = if tag == 2 then Some (single.Heap Deq) else None

-- The member that has this tag and one number. Where the number is 0, the member may have none.
abbrev pub one_member : ℕ → ℕ → Option LedgerSingle
one_member tag k =
    if tag == 1 then Some (single.Heap (Enq k)) else if tag == 3 then Some (single.Heap (Add k)) else if tag == 4 then Some (single.Heap (Rem k)) else
    if tag == 6 then Some (single.Heap (Del k)) else if tag == 12 then Some (single.Conditional (DeqIf k)) else if k == 0 then bare_member tag else None

-- The member that has this tag and two numbers. Where the last is 0, the member may have fewer.
abbrev pub two_member : ℕ → ℕ → ℕ → Option LedgerSingle
two_member tag k v =
    if tag == 5 then Some (single.Heap (Put k v)) else if tag == 9 then Some (single.Conditional (Inc k v)) else if tag == 10 then Some (single.Conditional (New k v)) else
    if v == 0 then one_member tag k else None

-- The member that has this tag and three numbers. Where the last is 0, the member may have fewer.
abbrev pub three_member : ℕ → ℕ → ℕ → ℕ → Option LedgerSingle
three_member tag a b d =
    if tag == 7 then Some (single.Heap (Move a b d)) else if tag == 11 then Some (single.Conditional (Cas a b d)) else if d == 0 then two_member tag a b else None

-- the member that the words are those of
abbrev pub words_member : List ℕ → Option LedgerSingle
words_member (tag ∷ a ∷ b ∷ d ∷ []) = three_member tag a b d
words_member words = None

-- the two words of what a member is told: its tag, and its number or 0
abbrev pub told_words : LedgerTold → List ℕ
told_words (told.Heap reply.Queued) = 1 ∷ 0 ∷ []
told_words (told.Heap reply.Full) = 2 ∷ 0 ∷ []
told_words (told.Heap (reply.Head v)) = 3 ∷ v ∷ []
told_words (told.Heap reply.Empty) = 4 ∷ 0 ∷ []
told_words (told.Heap reply.Added) = 5 ∷ 0 ∷ []
told_words (told.Heap reply.Present) = 6 ∷ 0 ∷ []
told_words (told.Heap reply.Removed) = 7 ∷ 0 ∷ []
told_words (told.Heap reply.Absent) = 8 ∷ 0 ∷ []
told_words (told.Heap reply.NoPrior) = 9 ∷ 0 ∷ []
told_words (told.Heap (reply.Was v)) = 10 ∷ v ∷ []
told_words (told.Heap reply.Moved) = 11 ∷ 0 ∷ []
told_words (told.Heap (reply.Short v)) = 12 ∷ v ∷ []
told_words (told.Heap reply.Over) = 13 ∷ 0 ∷ []
told_words (told.Other v) = 15 ∷ v ∷ []

-- what is told by this tag and no number
abbrev pub bare_told : ℕ → Option LedgerTold
bare_told tag =
    if tag == 1 then Some (told.Heap reply.Queued) else if tag == 2 then Some (told.Heap reply.Full) else if tag == 4 then Some (told.Heap reply.Empty) else
    if tag == 5 then Some (told.Heap reply.Added) else if tag == 6 then Some (told.Heap reply.Present) else if tag == 7 then Some (told.Heap reply.Removed) else
    if tag == 8 then Some (told.Heap reply.Absent) else if tag == 9 then Some (told.Heap reply.NoPrior) else if tag == 11 then Some (told.Heap reply.Moved) else
    if tag == 13 then Some (told.Heap reply.Over) else None

-- What is told by this tag and number. Where the number is 0, it may be told by the tag alone.
abbrev pub number_told : ℕ → ℕ → Option LedgerTold
number_told tag v =
    if tag == 3 then Some (told.Heap (reply.Head v)) else if tag == 10 then Some (told.Heap (reply.Was v)) else if tag == 12 then Some (told.Heap (reply.Short v)) else
    if tag == 15 then Some (told.Other v) else if v == 0 then bare_told tag else None

-- what a member was told by these words
abbrev pub words_told : List ℕ → Option LedgerTold
words_told (tag ∷ v ∷ []) = number_told tag v
words_told words = None
