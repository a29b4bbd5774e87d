-- The printed lines determine the results.
use Rattle.std.specs.Prelude.{ℕ, Bool, if◌then◌else◌, List, [], ◌∷◌, codes, decimal}
use Rattle.std.specs.Str.{bytes_eq}
use Rattle.std.specs.Str.Parse.{digits_value}
use Rattle.std.proofs.Common.{refl, ap}
use Rattle.std.proofs.lemmas.List.{append_assoc}
use Rattle.rom_model.specs.Singles.{reply_of}
use Rattle.rom_model.specs.declared.call.Reply.{Reply}
use Rattle.rom_model.specs.declared.call.Reply.TheVariants as reply
use Rattle.rom_model.specs.declared.call.Answer.{Answer}
use Rattle.rom_model.specs.declared.call.Answer.TheVariants as answer
use Rattle.rom_text.specs.Determines.{TextDetermines}
use Rattle.rom_text.proofs.Determined as determined
use Rattle.rom_text.proofs.Naming.{IsNamed, by_two, by_word}
use Rattle.rom_text.proofs.Reading.{decimal_is_a_word, decimal_read, wide}
use Rattle.rom_script.specs.Trio.{reply_text, answer_text, ReplyFits, AnswerFits, trio_texts}
use Rattle.rom_script.proofs.GroupLines.{all_spaced, group_are_words, group_seen, group_words, seen_in, single_of}

-- the reply to one update that words name
abbrev one_of : List ℕ → List (List ℕ) → Reply
one_of w [] = reply_of (single_of w 0)
one_of w (v ∷ more) = reply_of (single_of w (digits_value 10 v))

-- the word begins the line of a group that was done
abbrev is_all : List ℕ → Bool
is_all w = bytes_eq w (codes "all")

-- the reply that words name
abbrev told_by : List ℕ → List (List ℕ) → Reply
told_by w ws = if is_all w then reply.All (seen_in ws).1 else one_of w ws

-- the answer that a word alone names
abbrev plain_answer : List ℕ → Answer
plain_answer w =
    if bytes_eq w (codes "yes") then answer.Yes else
    (if bytes_eq w (codes "no") then answer.No else
    (if bytes_eq w (codes "none") then answer.Missing else answer.Empty))

-- the answer that a word and a number name
abbrev number_answer : List ℕ → ℕ → Answer
number_answer w v =
    if bytes_eq w (codes "value") then answer.Value v else
    (if bytes_eq w (codes "head") then answer.Head v else
    (if bytes_eq w (codes "total") then answer.Total v else answer.Fresh v))

-- the answer that words name, by how many they are
abbrev pub answer_of : List ℕ → List (List ℕ) → Answer
answer_of w [] = plain_answer w
answer_of w (q ∷ a ∷ s ∷ b ∷ m ∷ more) = answer.Sizes (digits_value 10 q) (digits_value 10 s) (digits_value 10 m)
answer_of w (v ∷ more) = number_answer w (digits_value 10 v)

-- a reply's text is words that name it
reply_named : (r : Reply) → ReplyFits r → IsNamed told_by (reply_text r) r
reply_named reply.Queued fits = by_word told_by (codes "queued") reply.Queued refl refl
reply_named reply.Full fits = by_word told_by (codes "full") reply.Full refl refl
reply_named (reply.Head v) fits = by_two told_by (codes "head") (decimal v) (reply.Head v) refl (decimal_is_a_word v) (ap reply.Head (decimal_read v (wide v fits)))
reply_named reply.Empty fits = by_word told_by (codes "empty") reply.Empty refl refl
reply_named reply.Added fits = by_word told_by (codes "added") reply.Added refl refl
reply_named reply.Present fits = by_word told_by (codes "present") reply.Present refl refl
reply_named reply.Removed fits = by_word told_by (codes "removed") reply.Removed refl refl
reply_named reply.Absent fits = by_word told_by (codes "absent") reply.Absent refl refl
reply_named reply.NoPrior fits = by_word told_by (codes "none") reply.NoPrior refl refl
reply_named (reply.Was v) fits = by_two told_by (codes "was") (decimal v) (reply.Was v) refl (decimal_is_a_word v) (ap reply.Was (decimal_read v (wide v fits)))
reply_named reply.Moved fits = by_word told_by (codes "moved") reply.Moved refl refl
reply_named (reply.Short v) fits = by_two told_by (codes "short") (decimal v) (reply.Short v) refl (decimal_is_a_word v) (ap reply.Short (decimal_read v (wide v fits)))
reply_named reply.Over fits = by_word told_by (codes "over") reply.Over refl refl
reply_named (reply.All replies) fits = record {
  first = codes "all";
  others = group_words replies;
  is = all_spaced replies;
  begun = refl;
  words = group_are_words replies;
  names = ap (λ s. reply.All s.1) (group_seen replies fits);
}

-- the three sizes are words that name them
sizes_named : (q s m : ℕ) → AnswerFits (answer.Sizes q s m) → IsNamed answer_of (answer_text (answer.Sizes q s m)) (answer.Sizes q s m)
sizes_named q s m fits = record {
  first = codes "queue";
  others = decimal q ∷ codes "set" ∷ decimal s ∷ codes "map" ∷ decimal m ∷ [];
  is = simp append_assoc refl;
  begun = refl;
  words = (decimal_is_a_word q, (refl, (decimal_is_a_word s, (refl, (decimal_is_a_word m, tt)))));
  names = λ i. answer.Sizes (decimal_read q (wide q fits.0) i) (decimal_read s (wide s fits.1) i) (decimal_read m (wide m fits.2) i);
}

-- an answer's text is words that name it
pub answer_named : (a : Answer) → AnswerFits a → IsNamed answer_of (answer_text a) a
answer_named answer.Yes fits = by_word answer_of (codes "yes") answer.Yes refl refl
answer_named answer.No fits = by_word answer_of (codes "no") answer.No refl refl
answer_named (answer.Value v) fits = by_two answer_of (codes "value") (decimal v) (answer.Value v) refl (decimal_is_a_word v) (ap answer.Value (decimal_read v (wide v fits)))
answer_named answer.Missing fits = by_word answer_of (codes "none") answer.Missing refl refl
answer_named (answer.Head v) fits = by_two answer_of (codes "head") (decimal v) (answer.Head v) refl (decimal_is_a_word v) (ap answer.Head (decimal_read v (wide v fits)))
answer_named answer.Empty fits = by_word answer_of (codes "empty") answer.Empty refl refl
answer_named (answer.Sizes q s m) fits = sizes_named q s m fits
answer_named (answer.Total t) fits = by_two answer_of (codes "total") (decimal t) (answer.Total t) refl (decimal_is_a_word t) (ap answer.Total (decimal_read t fits))
answer_named (answer.Fresh c) fits = by_two answer_of (codes "fresh") (decimal c) (answer.Fresh c) refl (decimal_is_a_word c) (ap answer.Fresh (decimal_read c (wide c fits)))

-- two runs with the same text have the same results and the same count
pub text_determines : TextDetermines trio_texts
text_determines = determined.text_determines trio_texts told_by answer_of reply_named answer_named
