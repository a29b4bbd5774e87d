-- The printed lines determine the results.
use Rattle.std.specs.Prelude.{◌≡◌, ℕ, ◌+◌, ◌-◌, ◌*◌, ◌/◌, ◌%◌, ◌<◌, nat_lt, if◌then◌else◌, List, [], ◌∷◌, slice_index, codes, decimal}
use Rattle.std.specs.List.{flat_map}
use Rattle.std.specs.Str.{bytes_eq}
use Rattle.std.specs.Str.Parse.{digits_value}
use Rattle.std.proofs.Common.{suc, refl, ap, ◌∙◌, arith}
use Rattle.std.proofs.lemmas.Bool.Decides.{nat_tests}
use Rattle.rom_text.specs.Determines.{TextDetermines}
use Rattle.rom_text.proofs.Determined as determined
use Rattle.rom_text.proofs.Naming.{IsNamed, by_two, by_word, number_of}
use Rattle.rom_text.proofs.Reading.{decimal_is_a_word, decimal_read, wide}
use Rattle.rom_blob_region.specs.Texts.{blob_answer_text, bytes_text, digit_of, digits_of, blob_reply_text, BlobAnswerFits, BlobReplyFits}
use Rattle.rom_blob_region.specs.declared.call.BlobReply.{BlobReply}
use Rattle.rom_blob_region.specs.declared.call.BlobReply.TheVariants as reply
use Rattle.rom_blob_region.specs.declared.call.BlobAnswer.{BlobAnswer}
use Rattle.rom_blob_region.specs.declared.call.BlobAnswer.TheVariants as answer
use Rattle.rom_blob.specs.Texts.{blob_texts}
use Rattle.rom_blob.proofs.Asking.{bytes_are_a_word}

-- the number that a digit says
abbrev value_of : ℕ → ℕ
value_of digit = if nat_lt digit 58 then digit - 48 else digit - 87

-- the bytes that digits say, two by two
abbrev bytes_said : List ℕ → List ℕ
bytes_said [] = []
bytes_said (high ∷ []) = []
bytes_said (high ∷ low ∷ digits) = (value_of high * 16 + value_of low) ∷ bytes_said digits

-- the digit of a number says it
digit_read : (d : ℕ) → d < 16 → value_of (digit_of d) ≡ d
digit_read d small = grind (arith, nat_tests, small)

-- the digits of bytes say them
digits_read : (bytes : List ℕ) → ((k : ℕ) → slice_index bytes k < 256) → bytes_said (flat_map digits_of bytes) ≡ bytes
digits_read [] small = refl
digits_read (b ∷ bytes) small =
    let high = digit_read (b / 16) (omega (arith, small 0)) in
    let low = digit_read (b % 16) (omega arith) in
    let whole : b / 16 * 16 + b % 16 ≡ b = omega arith in
    (λ i. (high i * 16 + low i) ∷ bytes_said (flat_map digits_of bytes)) ∙ (λ i. whole i ∷ digits_read bytes (λ k. small (suc k)) i)

-- what is written of bytes says them
text_bytes : (bytes : List ℕ) → ((k : ℕ) → slice_index bytes k < 256) → bytes_said (bytes_text bytes) ≡ bytes
text_bytes [] small = refl
text_bytes (b ∷ bytes) small = digits_read (b ∷ bytes) small

-- the reply that words name
abbrev reply_of : List ℕ → List (List ℕ) → BlobReply
reply_of w ws =
    if bytes_eq w (codes "new") then reply.New else
    (if bytes_eq w (codes "full") then reply.Full else
    (if bytes_eq w (codes "none") then reply.NoPrior else reply.Was (number_of ws)))

-- the answer that words name
abbrev answer_of : List ℕ → List (List ℕ) → BlobAnswer
answer_of w [] = answer.Missing
answer_of w (v ∷ more) = if bytes_eq w (codes "bytes") then answer.Bytes (bytes_said v) else answer.Keys (digits_value 10 v)

-- a reply's text is words that name it
reply_named : (r : BlobReply) → BlobReplyFits r → IsNamed reply_of (blob_reply_text r) r
reply_named reply.New fits = by_word reply_of (codes "new") reply.New refl refl
reply_named (reply.Was v) fits = by_two reply_of (codes "was") (decimal v) (reply.Was v) refl (decimal_is_a_word v) (ap reply.Was (decimal_read v (wide v fits)))
reply_named reply.Full fits = by_word reply_of (codes "full") reply.Full refl refl
reply_named reply.NoPrior fits = by_word reply_of (codes "none") reply.NoPrior refl refl

-- and so is an answer's
answer_named : (a : BlobAnswer) → BlobAnswerFits a → IsNamed answer_of (blob_answer_text a) a
answer_named (answer.Bytes bytes) fits = by_two answer_of (codes "bytes") (bytes_text bytes) (answer.Bytes bytes) refl (bytes_are_a_word bytes) (ap answer.Bytes (text_bytes bytes fits.1))
answer_named answer.Missing fits = by_word answer_of (codes "none") answer.Missing refl refl
answer_named (answer.Keys count) fits = by_two answer_of (codes "keys") (decimal count) (answer.Keys count) refl (decimal_is_a_word count) (ap answer.Keys (decimal_read count (wide count fits)))

-- two runs with the same text have the same results and the same count
pub text_determines : TextDetermines blob_texts
text_determines = determined.text_determines blob_texts reply_of answer_of reply_named answer_named
