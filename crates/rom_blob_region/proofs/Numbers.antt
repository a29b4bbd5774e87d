-- A number made of bytes, the last first.
use Rattle.std.proofs.Common.{◌≡◌, ℕ, zero, suc, ◌+◌, ◌*◌, ◌/◌, ◌%◌, ◌^◌, ◌<◌, ◌≤◌, List, length, refl, sym, ap, ◌∙◌, arith, inl, inr}
use Rattle.std.specs.Prelude.{slice_index}
use Rattle.std.proofs.lemmas.Bool.{cases_lt}
use Rattle.std.proofs.lemmas.Nat.{pow-add}
use Rattle.std.proofs.Math.Nat.{pow-succ'}
use Rattle.rom_blob_region.specs.Bytes.{byte_at, bytes_at, number_from_bytes, word_from_bytes, IsChunk}
use Rattle.std.proofs.lemmas.Grind.{same_number_lists}
use Rattle.std.proofs.lemmas.List.{get_or_past}
use Rattle.rom_blob_region.specs.Packed.{long_at, byte_of}
use Rattle.rom_blob_region.proofs.Carried.{no_byte}
use Rattle.rom_blob_region.proofs.Packing.{byte_back}

-- so many bytes make no greater number
number_small : (bytes : List ℕ) → ((k : ℕ) → slice_index bytes k < 256) → (at many : ℕ) → number_from_bytes bytes at many < 256 ^ many
number_small bytes low at zero = omega arith
number_small bytes low at (suc many) = omega (arith, low at, number_small bytes low (at + 1) many, pow-succ' 256 many)

-- the words of bytes are cells of them
module _ (bytes words : List ℕ) (low : (k : ℕ) → slice_index bytes k < 256) (few : length bytes ≤ 256) (long : length words ≡ 32) (are : (j : ℕ) → j < 32 → slice_index words j ≡ word_from_bytes bytes j) where
  byte_is : (k : ℕ) → k < 256 → byte_at words 0 k ≡ slice_index bytes k
  byte_is k lt =
      let e : 0 + k / 8 ≡ k / 8 = omega arith in
      ap (λ x. x / 256 ^ (k % 8) % 256) (ap (λ j. slice_index words j) e ∙ are (k / 8) (omega (arith, lt))) ∙ byte_back bytes low k

  pub made_bytes : bytes_at words 0 (length bytes) ≡ bytes
  made_bytes = same_number_lists (bytes_at words 0 (length bytes)) bytes (long_at words 0 (length bytes))
      (λ k lt. let inside : k < length bytes = omega (arith, lt, long_at words 0 (length bytes)) in byte_of words 0 (length bytes) k inside ∙ byte_is k (omega (arith, inside, few)))

  pub made_chunk : IsChunk (length bytes) words
  made_chunk = record {
    within = few;
    whole = long;
    small = λ j. elim (cases_lt j 32) [
      | inl lt ↦ omega (arith, are j lt, number_small bytes low (8 * j) 8)
      | inr past ↦ omega (arith, get_or_past words j 0 (omega (arith, past, long)))
    ];
    zero_past = λ k ge. elim (cases_lt k 256) [
      | inl lt ↦ byte_is k lt ∙ get_or_past bytes k 0 (omega (arith, ge))
      | inr past ↦ no_byte words 0 k (get_or_past words (0 + k / 8) 0 (omega (arith, past, long)))
    ];
  }

-- eight bits a byte
pub bits : (r : ℕ) → 2 ^ (8 * r) ≡ 256 ^ r
bits zero = refl
bits (suc r) =
    let e : 8 * suc r ≡ 8 + 8 * r = omega arith in
    ap (λ a. 2 ^ a) e ∙ pow-add 2 8 (8 * r) ∙ ap (λ x. 256 * x) (bits r) ∙ sym (pow-succ' 256 r)
