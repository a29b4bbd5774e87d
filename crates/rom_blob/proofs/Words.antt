-- The words of a line.
use Rattle.std.specs.Prelude.{◌≡◌, ◌≢◌, ℕ, ◌+◌, ◌-◌, ◌^◌, ◌<◌, true, List, [], ◌∷◌, length, take, drop, slice_index, decimal, Option, Some, None, IfSome, IfNone}
use Rattle.std.proofs.Common.{zero, suc, refl, sym, ap, ◌∙◌, arith, rules, add-one}
use Rattle.std.specs.List.{join_with_byte}
use Rattle.std.proofs.lemmas.List.{take_all, drop_all}
use Rattle.std.proofs.lemmas.List.Splits.{join_with_byte-slice_split}
use Rattle.rom_text.specs.Phrases.{line_words, words_behind}
use Rattle.rom_text.proofs.Phrases.{first_word_is, phrase_read}
use Rattle.rom_text.proofs.Pieces.{rest_from}
use Rattle.rom_text.proofs.Reading.{is_word, decimal_is_a_word}

behind_space : (text : List ℕ) (at : ℕ) → at < length text → words_behind (drop at text) ≡ line_words (drop (suc at) text)
behind_space [] at lt = absurd (omega arith)
behind_space (b ∷ bs) zero lt = refl
behind_space (b ∷ bs) (suc k) lt = behind_space bs k (omega (arith, lt))

-- the words before and behind the first space
pub split_at : (text : List ℕ) (at : ℕ) → at < length text → ((k : ℕ) → k < at → slice_index text k ≢ 32) → slice_index text at ≡ 32 → line_words text ≡ take at text ∷ line_words (take (length text - (at + 1)) (drop (at + 1) text))
split_at text at lt before here =
    first_word_is text at (omega (arith, lt)) before (λ _. here)
    ∙ (λ i. take at text ∷ behind_space text at lt i) ∙ (λ i. take at text ∷ line_words (drop (sym (add-one at) i) text)) ∙ (λ i. take at text ∷ line_words (sym (rest_from text (at + 1)) i))

-- where there is no space, there is one word
pub no_split : (text : List ℕ) → ((k : ℕ) → k < length text → slice_index text k ≢ 32) → line_words text ≡ text ∷ []
no_split text none =
    first_word_is text (length text) (omega arith) none (λ lt. absurd (omega (arith, lt)))
    ∙ (λ i. take_all (length text) text (omega arith) i ∷ words_behind (drop_all (length text) text (omega arith) i))

-- a word alone has no other beside it
pub one_word : (word : List ℕ) → is_word word ≡ true → line_words word ≡ word ∷ []
one_word word is = phrase_read word [] is

-- a text of one word is that word
pub word_alone : (text word : List ℕ) → line_words text ≡ word ∷ [] → text ≡ word
word_alone text word is = sym (join_with_byte-slice_split 32 text) ∙ ap (join_with_byte 32) is

-- there always is a word
pub some_word : (text : List ℕ) → line_words text ≢ []
some_word text none =
    let empty : text ≡ [] = sym (join_with_byte-slice_split 32 text) ∙ ap (join_with_byte 32) none in
    let never : ([] ∷ []) ≡ [] = ap line_words (sym empty) ∙ none in
    absurd (search rules)

-- a text of one number is that number, and of none it is none
pub key_read : (text : List ℕ) (found : Option ℕ) → IfSome found (λ n. text ≡ decimal n) → IfSome found (λ n. line_words text ≡ decimal n ∷ [])
key_read text None is = is
key_read text (Some n) is = ap line_words is ∙ one_word (decimal n) (decimal_is_a_word n)

pub no_key_read : (text : List ℕ) (found : Option ℕ) → IfNone found ((n : ℕ) → n < 2 ^ 64 → text ≢ decimal n) → IfNone found ((n : ℕ) → n < 2 ^ 64 → line_words text ≢ decimal n ∷ [])
no_key_read text None none = λ n small is. none n small (word_alone text (decimal n) is)
no_key_read text (Some n) none = none
