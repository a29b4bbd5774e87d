-- Numbers of 64 bits, one more and in another order.
use Rattle.std.proofs.Common.{◌≡◌, ℕ, ◌^◌, ◌<◌, List, [], ◌∷◌, ◌++◌}
use Rattle.std.specs.List.Sorted.{IsPermutation}
use Rattle.std.proofs.lemmas.List.Elements.{All-from_recursion, recursion_from_All}
use Rattle.std.proofs.lemmas.List.Sorted.{All-permutation}
use Rattle.rom_text.specs.Phrases.{NumbersFit}
use Rattle.rom_carry.proofs.Carrying.{all_append}

pub fit_more : (xs ys : List ℕ) (v : ℕ) → ys ≡ xs ++ v ∷ [] → v < 2 ^ 64 → NumbersFit xs → NumbersFit ys
fit_more xs ys v are small fit = rw are (all_append (λ n. n < 2 ^ 64) xs (v ∷ []) fit (small, tt))

pub fit_permuted : (xs ys : List ℕ) → IsPermutation xs ys → NumbersFit xs → NumbersFit ys
fit_permuted xs ys permuted fit = recursion_from_All (λ n. n < 2 ^ 64) ys (All-permutation (λ n. n < 2 ^ 64) xs ys permuted (All-from_recursion (λ n. n < 2 ^ 64) xs fit))
