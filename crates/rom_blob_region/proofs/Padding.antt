-- Words that are written out byte by byte, and read again.
use Rattle.std.proofs.Common.{◌≡◌, ℕ, zero, suc, ◌+◌, ◌-◌, ◌*◌, ◌/◌, ◌%◌, ◌^◌, ◌<◌, List, [], ◌∷◌, ◌++◌, length, drop, replicate, refl, sym, ap, ◌∙◌, arith, inl, inr, length-append}
use Rattle.std.specs.Prelude.{slice_index}
use Rattle.std.specs.List.{flat_map}
use Rattle.std.proofs.lemmas.Bool.{cases_lt}
use Rattle.std.proofs.lemmas.Grind.{same_number_lists}
use Rattle.std.proofs.lemmas.List.{get_or_append_left, get_or-append_right, get_or-drop, get_or_past, length-replicate}
use Rattle.std.proofs.Math.Nat.{div-one}
use Rattle.byteorder.specs.Endian.{IsRead, little_bytes, little_from, little_number}
use Rattle.rom_blob_region.specs.Bytes.{byte_at, bytes_at, number_from_bytes, word_from_bytes, IsChunk}
use Rattle.rom_blob_region.specs.Packed.{long_at, byte_of}
use Rattle.rom_blob_region.proofs.Carried.{all_zeros, no_byte}

-- eight bytes a word
pub written_long : (words : List ℕ) → length (flat_map (little_bytes 8) words) ≡ 8 * length words
written_long [] = refl
written_long (w ∷ words) = omega (arith, written_long words)

-- each stands where it is looked for
pub byte_written : (words : List ℕ) (k : ℕ) → slice_index (flat_map (little_bytes 8) words) k ≡ byte_at words 0 k
byte_written [] k = sym (no_byte [] 0 k refl)
byte_written (w ∷ words) zero = ap (λ x. x % 256) (sym (div-one w))
byte_written (w ∷ words) (suc zero) = refl
byte_written (w ∷ words) (suc (suc zero)) = refl
byte_written (w ∷ words) (suc (suc (suc zero))) = refl
byte_written (w ∷ words) (suc (suc (suc (suc zero)))) = refl
byte_written (w ∷ words) (suc (suc (suc (suc (suc zero))))) = refl
byte_written (w ∷ words) (suc (suc (suc (suc (suc (suc zero)))))) = refl
byte_written (w ∷ words) (suc (suc (suc (suc (suc (suc (suc zero))))))) = refl
byte_written (w ∷ words) (suc (suc (suc (suc (suc (suc (suc (suc k)))))))) =
    let next : suc (0 + k / 8) ≡ 0 + suc (suc (suc (suc (suc (suc (suc (suc k))))))) / 8 = omega arith in
    let rest : k % 8 ≡ suc (suc (suc (suc (suc (suc (suc (suc k))))))) % 8 = omega arith in
    byte_written words k ∙ (λ t. slice_index (w ∷ words) (next t) / 256 ^ (rest t) % 256)

-- cells written out are the bytes, and zeros behind them
pub cells_written : (len : ℕ) (cells bytes : List ℕ) → IsChunk len cells → bytes ≡ bytes_at cells 0 len → flat_map (little_bytes 8) cells ≡ bytes ++ replicate (256 - length bytes) 0
cells_written len cells bytes is are =
    let many : length bytes ≡ len = ap length are ∙ long_at cells 0 len in
    let whole = written_long cells in
    same_number_lists (flat_map (little_bytes 8) cells) (bytes ++ replicate (256 - length bytes) 0)
    (omega (arith, whole, is.whole, is.within, many, length-replicate {A = ℕ} (256 - length bytes) 0, length-append bytes (replicate (256 - length bytes) 0)))
    (λ k lt. byte_written cells k ∙ elim (cases_lt k len) as (λ _. byte_at cells 0 k ≡ slice_index (bytes ++ replicate (256 - length bytes) 0) k) [
      | inl less ↦ sym (get_or_append_left bytes (replicate (256 - length bytes) 0) 0 k (omega (arith, less, many)) ∙ ap (λ xs. slice_index xs k) are ∙ byte_of cells 0 len k less)
      | inr past ↦ is.zero_past k (omega (arith, past)) ∙ sym (get_or-append_right bytes (replicate (256 - length bytes) 0) len k 0 many (omega (arith, past)) ∙ all_zeros (256 - length bytes) (k - len))
    ])

-- a word that is read is the number of its bytes
read_from : (bytes : List ℕ) (at i many : ℕ) → little_from i many (drop at bytes) ≡ number_from_bytes bytes (at + i) many
read_from bytes at i zero = refl
read_from bytes at i (suc many) =
    let next : at + suc i ≡ at + i + 1 = omega arith in
    let rest : little_from (suc i) many (drop at bytes) ≡ number_from_bytes bytes (at + i + 1) many = read_from bytes at (suc i) many ∙ ap (λ k. number_from_bytes bytes k many) next in
    (λ t. get_or-drop at bytes i 0 t + 256 * rest t)

-- bytes that are the same make the same number
same_number : (xs ys : List ℕ) → ((k : ℕ) → slice_index xs k ≡ slice_index ys k) → (at many : ℕ) → number_from_bytes xs at many ≡ number_from_bytes ys at many
same_number xs ys same at zero = refl
same_number xs ys same at (suc many) = λ t. same at t + 256 * same_number xs ys same (at + 1) many t

-- zeros behind bytes are no others than those that are not there
zeros_behind : (bytes : List ℕ) (k : ℕ) → slice_index (bytes ++ drop (length bytes) (replicate 256 0)) k ≡ slice_index bytes k
zeros_behind bytes k = elim (cases_lt k (length bytes)) [
  | inl lt ↦ get_or_append_left bytes (drop (length bytes) (replicate 256 0)) 0 k lt
  | inr ge ↦
      get_or-append_right bytes (drop (length bytes) (replicate 256 0)) (length bytes) k 0 refl (omega (arith, ge))
      ∙ get_or-drop (length bytes) (replicate 256 0) (k - length bytes) 0
      ∙ all_zeros 256 (length bytes + (k - length bytes))
      ∙ sym (get_or_past bytes k 0 (omega (arith, ge)))
]

-- words that are read from bytes with zeros behind them are those of the bytes
pub words_read : (bytes cells words : List ℕ) → cells ≡ bytes ++ drop (length bytes) (replicate 256 0) → length words ≡ 32 → IsRead little_number 8 cells words → (j : ℕ) → j < 32 → slice_index words j ≡ word_from_bytes bytes j
words_read bytes cells words padded long read j lt =
    let all : 8 * j + 0 ≡ 8 * j = omega arith in
    read j (omega (arith, lt, long))
    ∙ read_from cells (8 * j) 0 8
    ∙ ap (λ at. number_from_bytes cells at 8) all
    ∙ same_number cells bytes (λ k. ap (λ xs. slice_index xs k) padded ∙ zeros_behind bytes k) (8 * j) 8
