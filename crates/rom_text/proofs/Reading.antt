-- The words of printed lines, and the numbers that digits say.
use Rattle.std.specs.Prelude.{◌≡◌, ℕ, ◌+◌, ◌/◌, ◌%◌, ◌^◌, ◌<◌, ◌==◌, Bool, true, false, cond, ◌&&◌, nat_lt, if◌then◌else◌, List, [], ◌∷◌, ◌++◌, decimal}
use Rattle.std.proofs.Common.{zero, suc, refl, ap, ◌∙◌, arith, rules}
use Rattle.std.specs.Fmt.{digits, digits_onto, digit_glyph}
use Rattle.std.specs.List.{list_all}
use Rattle.std.specs.Str.Parse.{digits_value}
use Rattle.std.proofs.lemmas.Bool.{lt-ltb}
use Rattle.std.proofs.lemmas.List.{append_assoc}
use Rattle.std.proofs.lemmas.Fmt.{decimal_is_IsNumeral_wide}
use Rattle.rom_text.specs.Text.{line_text}

-- neither a space nor the end of a line is among the bytes
abbrev pub is_word : List ℕ → Bool
is_word w = list_all (λ b. nat_lt 32 b) w

-- each of them is a word
abbrev pub AllAreWords : List (List ℕ) → Type 0
AllAreWords [] = Unit {0}
AllAreWords (w ∷ ws) = (is_word w ≡ true) × AllAreWords ws

-- the byte goes onto the first word of the first line
abbrev onto_word : ℕ → List (List (List ℕ)) → List (List (List ℕ))
onto_word b ((w ∷ ws) ∷ lines) = ((b ∷ w) ∷ ws) ∷ lines
onto_word b other = other

-- the first line has one more word
abbrev another_word : List (List (List ℕ)) → List (List (List ℕ))
another_word [] = []
another_word (ws ∷ lines) = ([] ∷ ws) ∷ lines

-- the words of each line
abbrev pub words_of : List ℕ → List (List (List ℕ))
words_of [] = []
words_of (b ∷ bs) = if nat_lt 32 b then onto_word b (words_of bs) else (if b == 32 then another_word (words_of bs) else ([] ∷ []) ∷ words_of bs)

-- words with spaces between
abbrev pub with_spaces : List ℕ → List (List ℕ) → List ℕ
with_spaces w [] = w
with_spaces w (v ∷ ws) = w ++ 32 ∷ with_spaces v ws

-- a test of two parts holds, so each part does
pub both : (a b : Bool) → (a && b) ≡ true → (a ≡ true) × (b ≡ true)
both true b is = (refl, is)
both false b is = absurd (search rules)

-- a word before what begins with an empty word is read whole
word_read : (w rest : List ℕ) (ws : List (List ℕ)) (lines : List (List (List ℕ))) → is_word w ≡ true →
    words_of rest ≡ ([] ∷ ws) ∷ lines → words_of (w ++ rest) ≡ (w ∷ ws) ∷ lines
word_read [] rest ws lines word is = is
word_read (b ∷ bs) rest ws lines word is =
    let parts = both (nat_lt 32 b) (is_word bs) word in
    ap (λ t. cond t (onto_word b (words_of (bs ++ rest))) (if b == 32 then another_word (words_of (bs ++ rest)) else ([] ∷ []) ∷ words_of (bs ++ rest))) parts.0
    ∙ ap (onto_word b) (word_read bs rest ws lines parts.1 is)

-- a line is read as its words, before the lines behind it
pub line_read : (w : List ℕ) (ws : List (List ℕ)) (rest : List ℕ) → is_word w ≡ true → AllAreWords ws →
    words_of (line_text (with_spaces w ws) ++ rest) ≡ (w ∷ ws) ∷ words_of rest
line_read w [] rest word words = ap words_of (append_assoc w (10 ∷ []) rest) ∙ word_read w (10 ∷ rest) [] (words_of rest) word refl
line_read w (v ∷ ws) rest word words =
    let text : line_text (w ++ 32 ∷ with_spaces v ws) ++ rest ≡ w ++ 32 ∷ (line_text (with_spaces v ws) ++ rest) = simp append_assoc refl in
    ap words_of text
    ∙ word_read w (32 ∷ (line_text (with_spaces v ws) ++ rest)) (v ∷ ws) (words_of rest) word (ap another_word (line_read v ws rest words.0 words.1))

-- of two words, a test picks a word
either_word : (t : Bool) (xs ys : List ℕ) → is_word xs ≡ true → is_word ys ≡ true → is_word (cond t xs ys) ≡ true
either_word true xs ys x y = x
either_word false xs ys x y = y

-- a digit is no space
digit_is_no_space : (t : Bool) (d : ℕ) → nat_lt 32 (if t then 48 + d else 87 + d) ≡ true
digit_is_no_space true d = lt-ltb 32 (48 + d) (omega arith)
digit_is_no_space false d = lt-ltb 32 (87 + d) (omega arith)

-- digits before a word make a word
digits_are_a_word : (k n : ℕ) (acc : List ℕ) → is_word acc ≡ true → is_word (digits_onto k 10 false n acc) ≡ true
digits_are_a_word zero n acc word = word
digits_are_a_word (suc k) n acc word =
    let more : is_word (digit_glyph false (n % 10) ∷ acc) ≡ true = ap (λ t. t && is_word acc) (digit_is_no_space (nat_lt (n % 10) 10) (n % 10)) ∙ word in
    either_word (n / 10 == 0) (digit_glyph false (n % 10) ∷ acc) _ more (digits_are_a_word k (n / 10) (digit_glyph false (n % 10) ∷ acc) more)

-- the digits of a number are a word
pub decimal_is_a_word : (n : ℕ) → is_word (decimal n) ≡ true
unfolding digits
decimal_is_a_word n = digits_are_a_word 64 n [] refl

-- digits are read as their number
pub decimal_read : (n : ℕ) → n < 2 ^ 128 → digits_value 10 (decimal n) ≡ n
decimal_read n lt = (decimal_is_IsNumeral_wide n (omega arith)).1

-- a number of 64 bits has at most 128
pub wide : (n : ℕ) → n < 2 ^ 64 → n < 2 ^ 128
wide n lt = omega arith
