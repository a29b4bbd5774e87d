-- Numbers of 64 bits, one more and in another order.
use Rattle.std.proofs.Common.{◌≡◌, ℕ, ◌^◌, ◌<◌, List, [], ◌∷◌, ◌++◌, map, reverse}
use Rattle.std.specs.List.{AllByRecursion}
use Rattle.std.specs.List.Sorted.{IsPermutation}
use Rattle.std.proofs.lemmas.List.Elements.{All-from_recursion, recursion_from_All}
use Rattle.std.proofs.lemmas.List.Sorted.{All-permutation, IsPermutation-reverse}
use Rattle.rom_carry.proofs.Carrying.{all_append}
use Rattle.rom_text.specs.Phrases.{NumbersFit}
use Rattle.rom_rebuild.specs.declared.elements.element.Element.TheVariants.{Value, Member}
use Rattle.rom_rebuild.specs.Elements.{ElementFits, paired}

pub fit_more : (xs ys : List ℕ) (v : ℕ) → ys ≡ xs ++ v ∷ [] → v < 2 ^ 64 → NumbersFit xs → NumbersFit ys
fit_more xs ys v are small fit = rw are (all_append (λ n. n < 2 ^ 64) xs (v ∷ []) fit (small, tt))

pub fit_permuted : (xs ys : List ℕ) → IsPermutation xs ys → NumbersFit xs → NumbersFit ys
fit_permuted xs ys permuted fit = recursion_from_All (λ n. n < 2 ^ 64) ys (All-permutation (λ n. n < 2 ^ 64) xs ys permuted (All-from_recursion (λ n. n < 2 ^ 64) xs fit))

values_fit : (xs : List ℕ) → NumbersFit xs → AllByRecursion ElementFits (map Value xs)
values_fit [] fit = tt
values_fit (x ∷ xs) fit = (fit.0, values_fit xs fit.1)

members_fit : (xs : List ℕ) → NumbersFit xs → AllByRecursion ElementFits (map Member xs)
members_fit [] fit = tt
members_fit (x ∷ xs) fit = (fit.0, members_fit xs fit.1)

pairs_fit : (ks vs : List ℕ) → NumbersFit ks → NumbersFit vs → AllByRecursion ElementFits (paired ks vs)
pairs_fit [] vs fit_keys fit = tt
pairs_fit (k ∷ ks) [] fit_keys fit = tt
pairs_fit (k ∷ ks) (v ∷ vs) fit_keys fit = ((fit_keys.0, fit.0), pairs_fit ks vs fit_keys.1 fit.1)

pub elements_fit : (queue members ks vs : List ℕ) → NumbersFit queue → NumbersFit members → NumbersFit ks → NumbersFit vs → AllByRecursion ElementFits (map Value queue ++ (map Member (reverse members) ++ paired ks vs))
elements_fit queue members ks vs one two three four =
    all_append ElementFits (map Value queue) (map Member (reverse members) ++ paired ks vs) (values_fit queue one)
    (all_append ElementFits (map Member (reverse members)) (paired ks vs) (members_fit (reverse members) (fit_permuted members (reverse members) (IsPermutation-reverse members) two)) (pairs_fit ks vs three four))
