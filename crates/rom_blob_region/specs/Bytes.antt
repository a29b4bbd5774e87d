-- Bytes in words, the least first.
use Rattle.std.specs.Prelude.{◌≡◌, ℕ, zero, suc, ◌+◌, ◌*◌, ◌/◌, ◌%◌, ◌^◌, ◌<◌, ◌≤◌, ◌==◌, ◌&&◌, nat_le, Bool, true, false, List, [], ◌∷◌, ◌++◌, length, slice_index, Option, Some, None, if◌then◌else◌}

-- byte k of the words from that offset on, each of which has eight
abbrev pub byte_at : List ℕ → ℕ → ℕ → ℕ
byte_at words at k = slice_index words (at + k / 8) / 256 ^ (k % 8) % 256

-- so many bytes of the words from that offset on
abbrev pub bytes_at : List ℕ → ℕ → ℕ → List ℕ
bytes_at words at zero = []
bytes_at words at (suc len) = bytes_at words at len ++ byte_at words at len ∷ []

-- how many words so many bytes take
abbrev pub words_for : ℕ → ℕ
words_for len = (len + 7) / 8

-- in the last word that so many bytes take, those behind them are 0
abbrev pub EndsInZeros : List ℕ → ℕ → ℕ → Type 0
EndsInZeros words at len = (k : ℕ) → len ≤ k → k < 8 * words_for len → byte_at words at k ≡ 0

-- the number made of so many bytes from that one on, the least first; bytes that are not there are 0
abbrev pub number_from_bytes : List ℕ → ℕ → ℕ → ℕ
number_from_bytes bytes at zero = 0
number_from_bytes bytes at (suc k) = slice_index bytes at + 256 * number_from_bytes bytes (at + 1) k

-- word i of bytes
abbrev pub word_from_bytes : List ℕ → ℕ → ℕ
word_from_bytes bytes i = number_from_bytes bytes (8 * i) 8

-- the first words of bytes, so many
abbrev pub words_from_bytes : List ℕ → ℕ → List ℕ
words_from_bytes bytes zero = []
words_from_bytes bytes (suc many) = words_from_bytes bytes many ++ word_from_bytes bytes many ∷ []

-- whether two lists are the same
abbrev pub same_words : List ℕ → List ℕ → Bool
same_words [] [] = true
same_words [] (y ∷ ys) = false
same_words (x ∷ xs) [] = false
same_words (x ∷ xs) (y ∷ ys) = (x == y) && same_words xs ys

-- the bytes, so many, that have exactly these words, where there are such bytes
abbrev pub bytes_in : List ℕ → ℕ → Option (List ℕ)
bytes_in words len = if nat_le len 256 && same_words (words_from_bytes (bytes_at words 0 len) (words_for len)) words then Some (bytes_at words 0 len) else None

-- Cells that hold so many bytes, with zeros behind them.
pub record IsChunk (len : ℕ) (cells : List ℕ) : Type 0 where
  pub within : len ≤ 256
  pub whole : length cells ≡ 32
  pub small : (i : ℕ) → slice_index cells i < 2 ^ 64
  pub zero_past : (k : ℕ) → len ≤ k → byte_at cells 0 k ≡ 0
