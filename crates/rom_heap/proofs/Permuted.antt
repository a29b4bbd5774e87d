-- Blocks in another order.
use Rattle.std.proofs.Common.{◌≡◌, ℕ, zero, suc, ◌+◌, ◌<◌, List, [], ◌∷◌, refl, sym, ◌∙◌, ap, arith}
use Rattle.std.specs.Prelude.{◌==◌, if◌then◌else◌, IsPermutation}
use Rattle.std.specs.List.{sum_by}
use Rattle.std.proofs.lemmas.List.Sums.{sum_by-cons}
use Rattle.std.proofs.lemmas.List.Sorted.{IsPermutation-refl, IsPermutation-append, sum_by-IsPermutation}
use Rattle.rom_model.specs.Chains.{times}
use Rattle.rom_model.specs.Region.{all_of}

times_sum : (b : ℕ) (xs : List ℕ) → sum_by (λ x. if x == b then 1 else 0) xs ≡ times b xs
times_sum b [] = refl
times_sum b (x ∷ xs) = sum_by-cons (λ y. if y == b then 1 else 0) x xs ∙ ap (λ m. (if x == b then 1 else 0) + m) (times_sum b xs)

-- each stands there as often as before
pub times_permuted : (b : ℕ) (xs ys : List ℕ) → IsPermutation xs ys → times b ys ≡ times b xs
times_permuted b xs ys same = sym (times_sum b ys) ∙ sum_by-IsPermutation (λ x. if x == b then 1 else 0) xs ys same ∙ times_sum b xs

pub all_permuted : (f g : ℕ → List ℕ) (m : ℕ) → ((i : ℕ) → i < m → IsPermutation (f i) (g i)) → IsPermutation (all_of f m) (all_of g m)
all_permuted f g zero same = IsPermutation-refl []
all_permuted f g (suc m) same = IsPermutation-append (all_of f m) (all_of g m) (f m) (g m) (all_permuted f g m (λ i lt. same i (omega (arith, lt)))) (same m (omega arith))
