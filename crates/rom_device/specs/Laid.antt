-- Words laid over others one after another, and the words of bytes.
use Rattle.std.specs.Prelude.{ℕ, zero, suc, ◌+◌, ◌*◌, ◌/◌, List, [], ◌∷◌, ◌++◌, drop, length, slice_set}
use Rattle.byteorder.specs.Endian.{little_number}

-- the first n values
unfoldable pub firsts : (ℕ → ℕ) → ℕ → List ℕ
firsts value zero = []
firsts value (suc n) = firsts value n ++ value n ∷ []

-- these words, with the first n values from that place on
unfoldable pub laid : ℕ → (ℕ → ℕ) → ℕ → List ℕ → List ℕ
laid at value zero words = words
laid at value (suc n) words = slice_set (laid at value n words) (at + n) (value n)

-- the word of that number among bytes, the lowest byte first
unfoldable pub word_among : List ℕ → ℕ → ℕ
word_among bytes k = little_number 8 (drop (8 * k) bytes)

-- how many whole words bytes are
abbrev pub words_among : List ℕ → ℕ
words_among bytes = length bytes / 8
