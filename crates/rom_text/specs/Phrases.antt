-- The words of a line: its name, and the numbers behind it.
use Rattle.std.specs.Prelude.{◌≡◌, ◌≢◌, ◌==◌, ◌&&◌, nat_le, ℕ, ◌^◌, ◌<◌, ◌≤◌, List, [], ◌∷◌, length, map, decimal, slice_index, Option, Some, None, if◌then◌else◌}
use Rattle.std.specs.List.{slice_split, AllByRecursion}
use Rattle.std.specs.Str.{bytes_eq}
use Rattle.std.specs.Str.Parse.{digits_value}

-- the words between the spaces; between two spaces side by side stands an empty word
abbrev pub line_words : List ℕ → List (List ℕ)
line_words line = slice_split (λ b. b == 32) line

-- the words behind a word, where nothing follows it or a space and more
abbrev pub words_behind : List ℕ → List (List ℕ)
words_behind [] = []
words_behind (b ∷ bs) = line_words bs

-- a word, and numbers behind it in digits
abbrev pub phrase_words : List ℕ → List ℕ → List (List ℕ)
phrase_words name numbers = name ∷ map decimal numbers

-- each number has at most 64 bits
abbrev pub NumbersFit : List ℕ → Type 0
NumbersFit numbers = AllByRecursion (λ n. n < 2 ^ 64) numbers

-- they do not begin with a plus, nor with a zero before more bytes
abbrev pub IsPlain : List ℕ → Type 0
IsPlain digits = (slice_index digits 0 ≢ 43) × (slice_index digits 0 ≡ 48 → length digits ≤ 1)

-- the number from least to most that the word spells in decimal digits, without sign and without leading zero
abbrev pub number_within : ℕ → ℕ → List ℕ → Option ℕ
number_within least most word =
    let n = digits_value 10 word in
    if bytes_eq word (decimal n) && nat_le least n && nat_le n most then Some n else None
