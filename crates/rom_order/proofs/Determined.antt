-- The printed lines determine the results.
use Rattle.std.specs.Prelude.{if◌then◌else◌, ℕ, List, [], ◌∷◌, codes, decimal}
use Rattle.std.specs.Str.{bytes_eq}
use Rattle.std.specs.Str.Parse.{digits_value}
use Rattle.std.proofs.Common.{refl, ap}
use Rattle.std.proofs.lemmas.List.{append_assoc}
use Rattle.rom_text.specs.Determines.{TextDetermines}
use Rattle.rom_text.proofs.Determined as determined
use Rattle.rom_text.proofs.Naming.{IsNamed, by_two, by_word, number_of}
use Rattle.rom_text.proofs.Reading.{decimal_is_a_word, decimal_read, wide}
use Rattle.rom_order_region.specs.declared.call.OrderReply.{OrderReply}
use Rattle.rom_order_region.specs.declared.call.OrderReply.TheVariants as reply
use Rattle.rom_order_region.specs.declared.call.OrderAnswer.{OrderAnswer}
use Rattle.rom_order_region.specs.declared.call.OrderAnswer.TheVariants as answer
use Rattle.rom_order_region.specs.Texts.{index_texts, index_answer_text, index_reply_text, IndexAnswerFits, IndexReplyFits}

-- the reply that a word and a number name
abbrev reply_of : List ℕ → List (List ℕ) → OrderReply
reply_of w ws = if bytes_eq w (codes "full") then reply.Full else (if bytes_eq w (codes "none") then reply.NoPrior else reply.Was (number_of ws))

-- the answer that words name, by how many they are
abbrev answer_of : List ℕ → List (List ℕ) → OrderAnswer
answer_of w [] = answer.Missing
answer_of w (v ∷ []) = answer.Value (digits_value 10 v)
answer_of w (k ∷ v ∷ []) = answer.Pair (digits_value 10 k) (digits_value 10 v)
answer_of w (c ∷ sum ∷ t ∷ more) = answer.Range (digits_value 10 c) (digits_value 10 t)

-- a reply's text is words that name it
reply_named : (r : OrderReply) → IndexReplyFits r → IsNamed reply_of (index_reply_text r) r
reply_named (reply.Was v) fits = by_two reply_of (codes "was") (decimal v) (reply.Was v) refl (decimal_is_a_word v) (ap reply.Was (decimal_read v (wide v fits)))
reply_named reply.NoPrior fits = by_word reply_of (codes "none") reply.NoPrior refl refl
reply_named reply.Full fits = by_word reply_of (codes "full") reply.Full refl refl

-- and so is an answer's
answer_named : (a : OrderAnswer) → IndexAnswerFits a → IsNamed answer_of (index_answer_text a) a
answer_named (answer.Value v) fits = by_two answer_of (codes "value") (decimal v) (answer.Value v) refl (decimal_is_a_word v) (ap answer.Value (decimal_read v (wide v fits)))
answer_named answer.Missing fits = by_word answer_of (codes "none") answer.Missing refl refl
answer_named (answer.Pair k v) fits = record {
  first = codes "pair";
  others = decimal k ∷ decimal v ∷ [];
  is = simp append_assoc refl;
  begun = refl;
  words = (decimal_is_a_word k, (decimal_is_a_word v, tt));
  names = λ i. answer.Pair (decimal_read k (wide k fits.0) i) (decimal_read v (wide v fits.1) i);
}
answer_named (answer.Range c s) fits = record {
  first = codes "range";
  others = decimal c ∷ codes "sum" ∷ decimal s ∷ [];
  is = simp append_assoc refl;
  begun = refl;
  words = (decimal_is_a_word c, (refl, (decimal_is_a_word s, tt)));
  names = λ i. answer.Range (decimal_read c (wide c fits.0) i) (decimal_read s fits.1 i);
}

-- two runs with the same text have the same results and the same count
pub text_determines : TextDetermines index_texts
text_determines = determined.text_determines index_texts reply_of answer_of reply_named answer_named
