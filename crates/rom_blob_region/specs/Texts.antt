-- What is printed of replies and answers, and how bytes are written in digits.
use Rattle.std.specs.Prelude.{ℕ, ◌/◌, ◌%◌, ◌^◌, ◌<◌, ◌≤◌, ◌+◌, nat_lt, if◌then◌else◌, List, [], ◌∷◌, ◌++◌, codes, decimal, length, slice_index}
use Rattle.std.specs.List.{flat_map}
use Rattle.rom_text.specs.Text.{ShownText}
use Rattle.rom_blob_region.specs.declared.call.BlobReply.{BlobReply}
use Rattle.rom_blob_region.specs.declared.call.BlobReply.TheVariants as reply
use Rattle.rom_blob_region.specs.declared.call.BlobAnswer.{BlobAnswer}
use Rattle.rom_blob_region.specs.declared.call.BlobAnswer.TheVariants as answer

-- the digit of a number below 16, of 0 to 9 and then a to f
abbrev pub digit_of : ℕ → ℕ
digit_of d = if nat_lt d 10 then 48 + d else 87 + d

-- a byte has two digits, the one for the higher four bits first
abbrev pub digits_of : ℕ → List ℕ
digits_of byte = digit_of (byte / 16) ∷ digit_of (byte % 16) ∷ []

-- how bytes are written: each in its digits, or a dash where there are none
abbrev pub bytes_text : List ℕ → List ℕ
bytes_text [] = codes "-"
bytes_text (b ∷ bytes) = flat_map digits_of (b ∷ bytes)

-- at most 256 numbers, each of which is a byte
abbrev pub AreBytes : List ℕ → Type 0
AreBytes bytes = (length bytes ≤ 256) × ((k : ℕ) → slice_index bytes k < 256)

-- what is printed of a reply
abbrev pub blob_reply_text : BlobReply → List ℕ
blob_reply_text reply.New = codes "new"
blob_reply_text (reply.Was len) = codes "was " ++ decimal len
blob_reply_text reply.Full = codes "full"
blob_reply_text reply.NoPrior = codes "none"

-- what is printed of an answer
abbrev pub blob_answer_text : BlobAnswer → List ℕ
blob_answer_text (answer.Bytes bytes) = codes "bytes " ++ bytes_text bytes
blob_answer_text answer.Missing = codes "none"
blob_answer_text (answer.Keys count) = codes "keys " ++ decimal count

-- the numbers of a reply are words
abbrev pub BlobReplyFits : BlobReply → Type 0
BlobReplyFits reply.New = Unit {0}
BlobReplyFits (reply.Was len) = len < 2 ^ 64
BlobReplyFits reply.Full = Unit {0}
BlobReplyFits reply.NoPrior = Unit {0}

-- those of an answer are words, and its bytes are such
abbrev pub BlobAnswerFits : BlobAnswer → Type 0
BlobAnswerFits (answer.Bytes bytes) = AreBytes bytes
BlobAnswerFits answer.Missing = Unit {0}
BlobAnswerFits (answer.Keys count) = count < 2 ^ 64

-- how replies are printed
abbrev pub shown_blob_reply : ShownText BlobReply
shown_blob_reply = record { text = blob_reply_text; Fits = BlobReplyFits }

-- how answers are printed
abbrev pub shown_blob_answer : ShownText BlobAnswer
shown_blob_answer = record { text = blob_answer_text; Fits = BlobAnswerFits }
