-- The bytes that words have, and the words of those bytes, which are the words again.
use Rattle.std.specs.Prelude.{◌≡◌, ℕ, zero, suc, ◌+◌, ◌*◌, ◌/◌, ◌%◌, ◌^◌, ◌<◌, List, [], ◌∷◌, ◌++◌, length, slice_index}
use Rattle.std.proofs.Common.{refl, sym, ap, ◌∙◌, arith, inl, inr, length-append}
use Rattle.std.proofs.lemmas.Bool.{cases_lt}
use Rattle.std.proofs.lemmas.List.{get_or_append_left, get_or_past}
use Rattle.std.proofs.Math.Seq.{get_or-append_seam}
use Rattle.std.proofs.lemmas.Grind.{same_number_lists}
use Rattle.rom_blob_region.specs.Bytes.{byte_at, bytes_at, word_from_bytes, words_from_bytes, IsChunk}

-- as many bytes as were asked for
pub long_at : (words : List ℕ) (at len : ℕ) → length (bytes_at words at len) ≡ len
long_at words at zero = refl
long_at words at (suc len) = let e : len + 1 ≡ suc len = omega arith in length-append (bytes_at words at len) (byte_at words at len ∷ []) ∙ ap (λ m. m + 1) (long_at words at len) ∙ e

-- of the bytes that were asked for, number k is byte k of the words from that offset on
pub byte_of : (words : List ℕ) (at len k : ℕ) → k < len → slice_index (bytes_at words at len) k ≡ byte_at words at k
byte_of words at zero k lt = absurd (omega arith)
byte_of words at (suc len) k lt = elim (cases_lt k len) [
  | inl less ↦ get_or_append_left (bytes_at words at len) (byte_at words at len ∷ []) 0 k (omega (arith, less, long_at words at len)) ∙ byte_of words at len k less
  | inr ge ↦
      let last : k ≡ length (bytes_at words at len) = omega (arith, lt, ge, long_at words at len) in
      let same : length (bytes_at words at len) ≡ k = sym last in
      ap (λ i. slice_index (bytes_at words at len ++ byte_at words at len ∷ []) i) last ∙ get_or-append_seam (bytes_at words at len) (byte_at words at len) [] 0 ∙ ap (λ i. byte_at words at i) (sym (long_at words at len) ∙ same)
]

-- a word has its eight bytes
eight : (x : ℕ) → x < 2 ^ 64 → x % 256 + 256 * (x / 256 % 256 + 256 * (x / 65536 % 256 + 256 * (x / 16777216 % 256 + 256 * (x / 4294967296 % 256 + 256 * (x / 1099511627776 % 256 + 256 * (x / 281474976710656 % 256 + 256 * (x / 72057594037927936 % 256 + 256 * 0))))))) ≡ x
eight x small =
    let a : x / 256 / 256 ≡ x / 65536 = omega arith in
    let b : x / 65536 / 256 ≡ x / 16777216 = omega arith in
    let c : x / 16777216 / 256 ≡ x / 4294967296 = omega arith in
    let d : x / 4294967296 / 256 ≡ x / 1099511627776 = omega arith in
    let e : x / 1099511627776 / 256 ≡ x / 281474976710656 = omega arith in
    let f : x / 281474976710656 / 256 ≡ x / 72057594037927936 = omega arith in
    let g : x / 72057594037927936 < 256 = omega arith in
    let h : x / 72057594037927936 % 256 ≡ x / 72057594037927936 = omega (arith, g) in
    let one = split x in
    let two = split (x / 256) in
    let three = split (x / 65536) in
    let four = split (x / 16777216) in
    let five = split (x / 4294967296) in
    let six = split (x / 1099511627776) in
    let seven = split (x / 281474976710656) in
    omega (arith, one, two, three, four, five, six, seven, a, b, c, d, e, f, h)
  where
    split : (y : ℕ) → y % 256 + 256 * (y / 256) ≡ y
    split y = omega arith

module _ (len : ℕ) (cells : List ℕ) (is : IsChunk len cells) where
  -- each byte, also those behind the last
  byte_is : (k : ℕ) → slice_index (bytes_at cells 0 len) k ≡ byte_at cells 0 k
  byte_is k = elim (cases_lt k len) [
    | inl lt ↦ byte_of cells 0 len k lt
    | inr ge ↦ get_or_past (bytes_at cells 0 len) k 0 (omega (arith, ge, long_at cells 0 len)) ∙ sym (is.zero_past k (omega (arith, ge)))
  ]

  digit : (i r k : ℕ) → k ≡ 8 * i + r → r < 8 → slice_index (bytes_at cells 0 len) k ≡ slice_index cells i / 256 ^ r % 256
  digit i r k at lt =
      let quotient : 0 + k / 8 ≡ i = omega (arith, at, lt) in
      let rest : k % 8 ≡ r = omega (arith, at, lt) in
      byte_is k ∙ (λ t. slice_index cells (quotient t) / 256 ^ (rest t) % 256)

  pub word_is : (i : ℕ) → word_from_bytes (bytes_at cells 0 len) i ≡ slice_index cells i
  word_is i =
      let zeroth = digit i 0 (8 * i) (omega arith) (omega arith) in
      let first = digit i 1 (8 * i + 1) (omega arith) (omega arith) in
      let second = digit i 2 (8 * i + 1 + 1) (omega arith) (omega arith) in
      let third = digit i 3 (8 * i + 1 + 1 + 1) (omega arith) (omega arith) in
      let fourth = digit i 4 (8 * i + 1 + 1 + 1 + 1) (omega arith) (omega arith) in
      let fifth = digit i 5 (8 * i + 1 + 1 + 1 + 1 + 1) (omega arith) (omega arith) in
      let sixth = digit i 6 (8 * i + 1 + 1 + 1 + 1 + 1 + 1) (omega arith) (omega arith) in
      let seventh = digit i 7 (8 * i + 1 + 1 + 1 + 1 + 1 + 1 + 1) (omega arith) (omega arith) in
      omega (arith, zeroth, first, second, third, fourth, fifth, sixth, seventh, eight (slice_index cells i) (is.small i))

-- as many words as were asked for
pub words_long : (bytes : List ℕ) (many : ℕ) → length (words_from_bytes bytes many) ≡ many
words_long bytes zero = refl
words_long bytes (suc many) = let e : many + 1 ≡ suc many = omega arith in length-append (words_from_bytes bytes many) (word_from_bytes bytes many ∷ []) ∙ ap (λ m. m + 1) (words_long bytes many) ∙ e

-- word i of the words that were asked for is word i of the bytes
pub packed_word_at : (bytes : List ℕ) (many i : ℕ) → i < many → slice_index (words_from_bytes bytes many) i ≡ word_from_bytes bytes i
packed_word_at bytes zero i lt = absurd (omega arith)
packed_word_at bytes (suc many) i lt = elim (cases_lt i many) [
  | inl less ↦ get_or_append_left (words_from_bytes bytes many) (word_from_bytes bytes many ∷ []) 0 i (omega (arith, less, words_long bytes many)) ∙ packed_word_at bytes many i less
  | inr ge ↦
      let last : i ≡ length (words_from_bytes bytes many) = omega (arith, lt, ge, words_long bytes many) in
      let back : many ≡ i = omega (arith, lt, ge) in
      ap (λ j. slice_index (words_from_bytes bytes many ++ word_from_bytes bytes many ∷ []) j) last ∙ get_or-append_seam (words_from_bytes bytes many) (word_from_bytes bytes many) [] 0 ∙ ap (λ j. word_from_bytes bytes j) back
]

-- cells are the words of their bytes
pub packed_again : (len : ℕ) (cells : List ℕ) → IsChunk len cells → words_from_bytes (bytes_at cells 0 len) 32 ≡ cells
packed_again len cells is = same_number_lists (words_from_bytes (bytes_at cells 0 len) 32) cells (words_long (bytes_at cells 0 len) 32 ∙ sym is.whole)
    (λ k lt. packed_word_at (bytes_at cells 0 len) 32 k (omega (arith, lt, words_long (bytes_at cells 0 len) 32)) ∙ word_is len cells is k)
