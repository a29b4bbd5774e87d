-- The words of a line.
use Rattle.std.specs.Prelude.{◌≡◌, ◌≢◌, ℕ, ◌-◌, ◌^◌, ◌<◌, ◌≤◌, true, cond, nat_lt, List, [], ◌∷◌, ◌++◌, length, take, drop, map, slice_index, decimal}
use Rattle.std.proofs.Common.{zero, suc, refl, sym, ap, ◌∙◌, arith, rules, eq-eqb, ne_eqb, append-nil}
use Rattle.std.specs.List.{join_with_byte, onto_first}
use Rattle.std.proofs.lemmas.Bool.{ltb-true}
use Rattle.std.proofs.lemmas.Fmt.{decimal_injective}
use Rattle.rom_text.specs.Phrases.{NumbersFit, line_words, phrase_words, words_behind}
use Rattle.rom_text.proofs.Pieces.{rest_from}
use Rattle.rom_text.proofs.Reading.{both, decimal_is_a_word, is_word}

at_space : (b : ℕ) (bs : List ℕ) → b ≡ 32 → line_words (b ∷ bs) ≡ [] ∷ line_words bs
at_space b bs is = ap (λ t. cond t ([] ∷ line_words bs) (onto_first b (line_words bs))) (eq-eqb b 32 is)

past_space : (b : ℕ) (bs : List ℕ) → b ≢ 32 → line_words (b ∷ bs) ≡ onto_first b (line_words bs)
past_space b bs isnt = ap (λ t. cond t ([] ∷ line_words bs) (onto_first b (line_words bs))) (ne_eqb b 32 isnt)

-- up to the first space, or to the end
pub first_word_is : (line : List ℕ) (len : ℕ) → len ≤ length line →
    ((k : ℕ) → k < len → slice_index line k ≢ 32) → (len < length line → slice_index line len ≡ 32) →
    line_words line ≡ take len line ∷ words_behind (drop len line)
first_word_is [] zero within before found = refl
first_word_is [] (suc k) within before found = absurd (omega arith)
first_word_is (b ∷ bs) zero within before found = at_space b bs (found (omega arith))
first_word_is (b ∷ bs) (suc k) within before found =
    past_space b bs (before 0 (omega arith))
    ∙ ap (onto_first b) (first_word_is bs k (omega arith) (λ j lt. before (suc j) (omega arith)) (λ lt. found (omega arith)))

-- a word before what begins with an empty word is read whole
word_read : (w rest : List ℕ) (ws : List (List ℕ)) → is_word w ≡ true → line_words rest ≡ [] ∷ ws → line_words (w ++ rest) ≡ w ∷ ws
word_read [] rest ws word is = is
word_read (b ∷ bs) rest ws word is =
    let parts = both (nat_lt 32 b) (is_word bs) word in
    past_space b (bs ++ rest) (λ space. omega (arith, space, ltb-true 32 b parts.0)) ∙ ap (onto_first b) (word_read bs rest ws parts.1 is)

-- a word and numbers with spaces between have these words
pub phrase_read : (name numbers : List ℕ) → is_word name ≡ true → line_words (join_with_byte 32 (phrase_words name numbers)) ≡ phrase_words name numbers
phrase_read name [] word = ap line_words (sym (append-nil name)) ∙ word_read name [] [] word refl
phrase_read name (n ∷ ns) word = word_read name (32 ∷ join_with_byte 32 (phrase_words (decimal n) ns)) _ word (ap (λ ws. [] ∷ ws) (phrase_read (decimal n) ns (decimal_is_a_word n)))

-- digits determine their numbers
pub numbers_are : (xs ys : List ℕ) → NumbersFit xs → NumbersFit ys → map decimal xs ≡ map decimal ys → xs ≡ ys
numbers_are [] [] fit_x fit_y same = refl
numbers_are [] (y ∷ ys) fit_x fit_y same = absurd (search rules)
numbers_are (x ∷ xs) [] fit_x fit_y same = absurd (search rules)
numbers_are (x ∷ xs) (y ∷ ys) fit_x fit_y same =
    (λ i. decimal_injective x y fit_x.0 fit_y.0 (search rules) i ∷ numbers_are xs ys fit_x.1 fit_y.1 (search rules) i)

-- a word that is no number is none of numbers' digits
not_among : (before after : List (List ℕ)) (word : List ℕ) (numbers : List ℕ) → ((n : ℕ) → n < 2 ^ 64 → word ≢ decimal n) → NumbersFit numbers → before ++ word ∷ after ≢ map decimal numbers
not_among [] after word [] none fit same = absurd (search rules)
not_among [] after word (n ∷ ns) none fit same = none n fit.0 (search rules)
not_among (b ∷ bs) after word [] none fit same = absurd (search rules)
not_among (b ∷ bs) after word (n ∷ ns) none fit same = not_among bs after word ns none fit.1 (search rules)

-- the words behind a space
pub behind_space : (rest word more : List ℕ) → 1 ≤ length rest → line_words (take (length rest - 1) (drop 1 rest)) ≡ word ∷ words_behind more → words_behind rest ≡ word ∷ words_behind more
behind_space [] word more some first = absurd (omega arith)
behind_space (b ∷ bs) word more some first = ap line_words (sym (rest_from (b ∷ bs) 1)) ∙ first

-- a line whose first words are a name and numbers, and then comes another word
module _ (line name numbers word more : List ℕ) (behind : List (List ℕ)) (so_far : line_words line ≡ name ∷ (map decimal numbers ++ behind)) (next : behind ≡ word ∷ words_behind more) where
  -- all its words
  words_are : line_words line ≡ name ∷ (map decimal numbers ++ word ∷ words_behind more)
  words_are = so_far ∙ ap (λ ws. name ∷ (map decimal numbers ++ ws)) next

  -- the word is no number, so the line is no word with numbers behind it
  pub no_number : ((n : ℕ) → n < 2 ^ 64 → word ≢ decimal n) → (w ns : List ℕ) → length ns ≤ 3 → NumbersFit ns → line_words line ≢ phrase_words w ns
  no_number none w ns few fit same = not_among (map decimal numbers) (words_behind more) word ns none fit (ap (drop 1) (sym words_are ∙ same))
