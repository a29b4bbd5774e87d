-- Bytes as they are written.
use Rattle.std.specs.Prelude.{slice_index, ◌==◌, ◌&&◌}
use Rattle.std.specs.List.{flat_map}
use Rattle.std.proofs.Common.{◌≡◌, ℕ, zero, suc, ◌/◌, ◌%◌, ◌<◌, Bool, true, List, [], ◌∷◌, ◌++◌, length, refl, arith, ap, inl, inr}
use Rattle.std.proofs.lemmas.Bool.{and_parts, cases_lt, eqb-true}
use Rattle.std.proofs.lemmas.List.{get_or_append_left, get_or_past}
use Rattle.hex.specs.Hex.{encode_lower, encode_with, lower_digits}
use Rattle.rom_blob_region.specs.Texts.{digit_of, digits_of}

-- whether the first digits of the table are those of the numbers up to there
abbrev are_digits : ℕ → Bool
are_digits zero = true
are_digits (suc n) = (slice_index lower_digits n == digit_of n) && are_digits n

-- and then each is
digit_is : (n d : ℕ) → are_digits n ≡ true → d < n → slice_index lower_digits d ≡ digit_of d
digit_is zero d are lt = absurd (omega arith)
digit_is (suc n) d are lt =
    let parts = and_parts (slice_index lower_digits n == digit_of n) (are_digits n) are in
    elim (cases_lt d n) [
      | inl less ↦ digit_is n d parts.1 less
      | inr last ↦ let same : d ≡ n = omega arith in rw same (eqb-true (slice_index lower_digits n) (digit_of n) parts.0)
    ]

-- bytes in the digits of that table are bytes in theirs
pub encoded : (bytes : List ℕ) → ((k : ℕ) → slice_index bytes k < 256) → encode_lower bytes ≡ flat_map digits_of bytes
unfolding encode_with
encoded [] small = refl
encoded (b ∷ bytes) small =
    let fits : b < 256 = small 0 in
    let high = digit_is 16 (b / 16) refl (omega (arith, fits)) in
    let low = digit_is 16 (b % 16) refl (omega arith) in
    let rest = encoded bytes (λ k. small (suc k)) in
    λ i. high i ∷ low i ∷ rest i

-- each is a byte where those of a longer list are
pub front_small : (bytes behind all : List ℕ) → all ≡ bytes ++ behind → ((k : ℕ) → slice_index all k < 256) → (k : ℕ) → slice_index bytes k < 256
front_small bytes behind all is small k = elim (cases_lt k (length bytes)) [
  | inl lt ↦ omega (arith, small k, ap (λ xs. slice_index xs k) is, get_or_append_left bytes behind 0 k lt)
  | inr past ↦ omega (arith, get_or_past bytes k 0 (omega (arith, past)))
]
