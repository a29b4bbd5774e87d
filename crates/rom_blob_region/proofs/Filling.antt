-- Bytes that were stored, and the words of their node.
use Rattle.std.proofs.Common.{◌≡◌, ◌≢◌, ◌⊎◌, ⊎_elim, ℕ, ◌+◌, ◌*◌, ◌<◌, ◌≤◌, List, length, refl, ◌∙◌, ap, arith, length-set, get_or-set_other}
use Rattle.std.specs.Prelude.{slice_index, slice_set}
use Rattle.std.proofs.lemmas.Grind.{get_or-set_at}
use Rattle.rom_model.specs.Space.{ChangesOnly}
use Rattle.rom_blob_region.specs.Bytes.{bytes_at, words_for, EndsInZeros}
use Rattle.rom_blob_region.specs.Calls.{IsFilled}
use Rattle.rom_blob_region.proofs.Carried.{bytes_same, ends_same}

pub filled : (node at many : ℕ) (bytes w w1 w2 w3 : List ℕ) → node + 4 ≤ length w → (node + 4 ≤ at) ⊎ (at + words_for (length bytes) ≤ node) → bytes_at w1 at (length bytes) ≡ bytes → EndsInZeros w1 at (length bytes) → ChangesOnly at (words_for (length bytes)) w w1
    → w2 ≡ slice_set w1 (node + 1) many → many ≡ length bytes → w3 ≡ slice_set w2 (node + 3) at → IsFilled node at bytes w w3
filled node at many bytes w w1 w2 w3 inside beside bytes_are ends others first same second =
    let other : (k : ℕ) → k ≢ node + 1 → k ≢ node + 3 → slice_index w3 k ≡ slice_index w1 k = λ k one three.
    ap (λ v. slice_index v k) second ∙ get_or-set_other w2 (node + 3) k at 0 three ∙ ap (λ v. slice_index v k) first ∙ get_or-set_other w1 (node + 1) k many 0 one in
    let byte : (j : ℕ) → 8 * j < length bytes → slice_index w3 (at + j) ≡ slice_index w1 (at + j) = λ j lt.
    other (at + j) (λ e. ⊎_elim (λ a. absurd (omega (arith, e, a))) (λ b. absurd (omega (arith, e, b, lt))) beside) (λ e. ⊎_elim (λ a. absurd (omega (arith, e, a))) (λ b. absurd (omega (arith, e, b, lt))) beside) in
    let long1 : length w1 ≡ length w = others.as_long in
    let long2 : length w2 ≡ length w = ap length first ∙ length-set w1 (node + 1) many ∙ long1 in
    record {
      as_long = ap length second ∙ length-set w2 (node + 3) at ∙ long2;
      len_is =
          let ne : node + 1 ≢ node + 3 = omega arith in
          ap (λ v. slice_index v (node + 1)) second ∙ get_or-set_other w2 (node + 3) (node + 1) at 0 ne ∙ ap (λ v. slice_index v (node + 1)) first ∙ get_or-set_at w1 (node + 1) (node + 1) many 0 refl (omega (arith, inside, long1)) ∙ same;
      at_is = ap (λ v. slice_index v (node + 3)) second ∙ get_or-set_at w2 (node + 3) (node + 3) at 0 refl (omega (arith, inside, long2));
      bytes_are = bytes_same w3 w1 at at (length bytes) byte ∙ bytes_are;
      ends = ends_same w3 w1 at at (length bytes) byte ends;
      others = λ k one three outside. other k one three ∙ ⊎_elim (λ lt. others.before k lt) (λ ge. others.behind k ge) outside;
    }
