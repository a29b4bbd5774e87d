-- Bytes in other words.
use Rattle.std.proofs.Common.{◌≡◌, ℕ, zero, suc, ◌+◌, ◌*◌, ◌/◌, ◌%◌, ◌^◌, ◌<◌, ◌≤◌, inl, inr, List, [], ◌∷◌, ◌++◌, length, replicate, refl, ap, ◌∙◌, arith}
use Rattle.std.specs.Prelude.{slice_index}
use Rattle.std.proofs.lemmas.Bool.{cases_lt}
use Rattle.std.proofs.lemmas.List.{get_or-replicate, get_or_past, length-replicate}
use Rattle.std.proofs.Math.Nat.{zero-div}
use Rattle.rom_blob_region.specs.Bytes.{byte_at, bytes_at, words_for, EndsInZeros, IsChunk}
use Rattle.rom_blob_region.specs.Packed.{long_at, byte_of}

pub from_zero : (w : List ℕ) (j : ℕ) → slice_index w (0 + j) ≡ slice_index w j
from_zero w j = let e : 0 + j ≡ j = omega arith in ap (λ k. slice_index w k) e

-- the same words have the same bytes
pub byte_same : (v w : List ℕ) (at there k : ℕ) → slice_index v (at + k / 8) ≡ slice_index w (there + k / 8) → byte_at v at k ≡ byte_at w there k
byte_same v w at there k same = ap (λ x. x / 256 ^ (k % 8) % 256) same

pub bytes_same : (v w : List ℕ) (at there len : ℕ) → ((j : ℕ) → 8 * j < len → slice_index v (at + j) ≡ slice_index w (there + j)) → bytes_at v at len ≡ bytes_at w there len
bytes_same v w at there zero same = refl
bytes_same v w at there (suc len) same =
    let rest = bytes_same v w at there len (λ j lt. same j (omega (arith, lt))) in
    let last = byte_same v w at there len (same (len / 8) (omega arith)) in
    λ i. rest i ++ last i ∷ []

pub ends_same : (v w : List ℕ) (at there len : ℕ) → ((j : ℕ) → 8 * j < len → slice_index v (at + j) ≡ slice_index w (there + j)) → EndsInZeros w there len → EndsInZeros v at len
ends_same v w at there len same ends k ge lt = byte_same v w at there k (same (k / 8) (omega (arith, ge, lt))) ∙ ends k ge lt

-- a word that is 0 has no other bytes
pub no_byte : (w : List ℕ) (at k : ℕ) → slice_index w (at + k / 8) ≡ 0 → byte_at w at k ≡ 0
no_byte w at k none = ap (λ x. x / 256 ^ (k % 8) % 256) none ∙ ap (λ x. x % 256) (zero-div (256 ^ (k % 8)))

pub all_zeros : (m i : ℕ) → slice_index (replicate m 0) i ≡ 0
all_zeros m i = elim (cases_lt i m) [
  | inl lt ↦ get_or-replicate m i 0 0 lt
  | inr ge ↦ get_or_past (replicate m 0) i 0 (omega (arith, ge, length-replicate {A = ℕ} m 0))
]

-- cells that hold the words of so many bytes, and zeros behind them
pub loaded : (len at : ℕ) (cells w : List ℕ) → len ≤ 256 → length cells ≡ 32 → ((i : ℕ) → slice_index cells i < 2 ^ 64) → ((j : ℕ) → j < words_for len → slice_index cells j ≡ slice_index w (at + j)) → ((j : ℕ) → words_for len ≤ j → slice_index cells j ≡ 0)
    → EndsInZeros w at len → IsChunk len cells
loaded len at cells w few long small same behind ends = record {
  within = few;
  whole = long;
  small = small;
  zero_past = λ k ge. elim (cases_lt k (8 * words_for len)) [
    | inl lt ↦ byte_same cells w 0 at k (from_zero cells (k / 8) ∙ same (k / 8) (omega (arith, lt))) ∙ ends k ge lt
    | inr past ↦ no_byte cells 0 k (from_zero cells (k / 8) ∙ behind (k / 8) (omega (arith, past)))
  ];
}

-- each of them is a byte
pub byte_small : (w : List ℕ) (at len k : ℕ) → slice_index (bytes_at w at len) k < 256
byte_small w at len k = elim (cases_lt k len) [
  | inl lt ↦ omega (arith, byte_of w at len k lt)
  | inr ge ↦ omega (arith, get_or_past (bytes_at w at len) k 0 (omega (arith, ge, long_at w at len)))
]
