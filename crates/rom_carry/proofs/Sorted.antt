-- Lists of numbers that rise, as the sets and the keys of maps that they are.
use Rattle.std.proofs.Common.{◌≡◌, inl, inr, ℕ, suc, ◌+◌, ◌<◌, ◌≤◌, Bool, true, false, T, List, [], ◌∷◌, map, refl, sym, ◌∙◌, ap, subst, arith}
use Rattle.std.specs.Prelude.{◌==◌, ◌&&◌, if◌then◌else◌, slice_index_or, Option, Some, None, is_some}
use Rattle.std.specs.List.{list_any, sum_by}
use Rattle.std.specs.List.Sorted.{IsPermutation, IsSorted}
use Rattle.std.specs.Ordering.{nat_cmp, eq_by_cmp, is_lt}
use Rattle.std.specs.Cmp.{nat_cmp_is, nat_cmp_total}
use Rattle.std.specs.declared.cmp.Ordering.TheVariants.{Less}
use Rattle.std.specs.FinMap as finite
use Rattle.std.specs.FinMap.Entries.{below_all, is_sorted}
use Rattle.std.proofs.lemmas.Bool.{cases_lt, cases_eq}
use Rattle.std.proofs.lemmas.List.Sorted.{sum_by-IsPermutation}
use Rattle.std.proofs.lemmas.List.Sums.{sum_by-cons}
use Rattle.rom_model.specs.Chains.{times}
use Rattle.rom_model.specs.Rising.{IsRising}
use Rattle.rom_model.proofs.Times.{times_here, times_more}

-- numbers as the keys of entries that have nothing
abbrev marked : List ℕ → List (ℕ × Unit {0})
marked xs = map (λ x. (x, tt)) xs

less : (x y : ℕ) → x < y → is_lt (nat_cmp x y) ≡ true
less x y lt = ap is_lt (sym (nat_cmp_is x y Less lt))

both_true : (a b : Bool) → a ≡ true → b ≡ true → T (a && b)
both_true true b one two = subst T (sym two) tt
both_true false b one two = absurd (let never : false ≡ true = one in cc)

true_of : (b : Bool) → T b → b ≡ true
true_of true is = refl
true_of false is = absurd is

below : (x y : ℕ) (ys : List ℕ) → x < y → IsRising (y ∷ ys) → below_all nat_cmp x (marked (y ∷ ys)) ≡ true
below x y [] lt rising = ap (λ b. b && true) (less x y lt)
below x y (z ∷ ys) lt rising =
    let rest = below x z ys (omega (arith, lt, rising.0)) rising.1 in
    ap (λ b. b && below_all nat_cmp x (marked (z ∷ ys))) (less x y lt) ∙ rest

pub rising_sorted : (xs : List ℕ) → IsRising xs → T (is_sorted nat_cmp (marked xs))
rising_sorted [] rising = tt
rising_sorted (x ∷ []) rising = tt
rising_sorted (x ∷ y ∷ xs) rising = both_true (below_all nat_cmp x (marked (y ∷ xs))) (is_sorted nat_cmp (marked (y ∷ xs))) (below x y xs rising.0 rising.1) (true_of (is_sorted nat_cmp (marked (y ∷ xs))) (rising_sorted (y ∷ xs) rising.1))

firsts_marked : (xs : List ℕ) → map (λ (e : ℕ × Unit {0}). e.0) (marked xs) ≡ xs
firsts_marked [] = refl
firsts_marked (x ∷ xs) = ap (λ ys. x ∷ ys) (firsts_marked xs)

-- the set that a sorted list is, and its items
abbrev of_sorted : List ℕ → finite.FinMap nat_cmp (Unit {0})
of_sorted xs = finite.from_sorted (marked xs)

items_sorted : (xs : List ℕ) → T (is_sorted nat_cmp (marked xs)) → finite.keys (of_sorted xs) ≡ xs
items_sorted xs sorted = ap (map (λ (e : ℕ × Unit {0}). e.0)) (finite.entries-from_sorted nat_cmp (marked xs) sorted) ∙ firsts_marked xs

contains_sorted : (xs : List ℕ) (q : ℕ) → T (is_sorted nat_cmp (marked xs)) → finite.contains_key (of_sorted xs) q ≡ list_any (eq_by_cmp nat_cmp q) xs
contains_sorted xs q sorted = finite.contains_key-keys (of_sorted xs) q ∙ ap (list_any (eq_by_cmp nat_cmp q)) (items_sorted xs sorted)

found : (a b : Option (Unit {0})) → is_some a ≡ is_some b → a ≡ b
found None None same = refl
found None (Some v) same = absurd (let never : false ≡ true = same in cc)
found (Some u) None same = absurd (let never : true ≡ false = same in cc)
found (Some u) (Some v) same = refl

-- two sorted lists with the same numbers are one
pub same_sorted : (xs ys : List ℕ) → T (is_sorted nat_cmp (marked xs)) → T (is_sorted nat_cmp (marked ys)) → ((q : ℕ) → list_any (eq_by_cmp nat_cmp q) xs ≡ list_any (eq_by_cmp nat_cmp q) ys) → xs ≡ ys
same_sorted xs ys one two same =
    let maps = finite.same_map nat_cmp_total finite.nat_cmp-IsAntisymmetric (of_sorted xs) (of_sorted ys) (λ q. found (finite.get (of_sorted xs) q) (finite.get (of_sorted ys) q) (contains_sorted xs q one ∙ same q ∙ sym (contains_sorted ys q two))) in
    sym (items_sorted xs one) ∙ ap (λ m. finite.keys m) maps ∙ items_sorted ys two

-- the keys of a map are sorted
module _ {V : Type 0} where
  below_keys : (x : ℕ) (es : List (ℕ × V)) → below_all nat_cmp x (marked (map (λ e. e.0) es)) ≡ below_all nat_cmp x es
  below_keys x [] = refl
  below_keys x (e ∷ es) = ap (λ b. is_lt (nat_cmp x e.0) && b) (below_keys x es)

  sorted_keys : (es : List (ℕ × V)) → is_sorted nat_cmp (marked (map (λ e. e.0) es)) ≡ is_sorted nat_cmp es
  sorted_keys [] = refl
  sorted_keys (e ∷ es) = λ i. below_keys e.0 es i && sorted_keys es i

  pub keys_sorted : (m : finite.FinMap nat_cmp V) → T (is_sorted nat_cmp (marked (finite.keys m)))
  keys_sorted m = subst T (sym (sorted_keys (finite.entries m))) (finite.entries_sorted m)

-- numbers of which none stands twice, and which a sort put in order, rise
times_sum : (b : ℕ) (xs : List ℕ) → times b xs ≡ sum_by (λ x. if x == b then 1 else 0) xs
times_sum b [] = refl
times_sum b (x ∷ xs) = ap (λ n. (if x == b then 1 else 0) + n) (times_sum b xs) ∙ sym (sum_by-cons (λ x. if x == b then 1 else 0) x xs)

pub times_permuted : (b : ℕ) (xs ys : List ℕ) → IsPermutation xs ys → times b ys ≡ times b xs
times_permuted b xs ys permuted = times_sum b ys ∙ sum_by-IsPermutation (λ x. if x == b then 1 else 0) xs ys permuted ∙ sym (times_sum b xs)

not_less : (x y : ℕ) → is_lt (nat_cmp y x) ≡ false → x ≤ y
not_less x y test = elim (cases_lt y x) [
  | inl lt ↦ absurd (let never : true ≡ false = sym (less y x lt) ∙ test in cc)
  | inr le ↦ omega (arith, le)
]

pub sorted_rising : (xs : List ℕ) → IsSorted nat_cmp xs → ((b : ℕ) → times b xs ≤ 1) → IsRising xs
sorted_rising [] sorted once = tt
sorted_rising (x ∷ []) sorted once = tt
sorted_rising (x ∷ y ∷ xs) sorted once = (
  apart (not_less x y (sorted 0 0 (omega arith) (omega arith))),
  sorted_rising (y ∷ xs) (λ k d low high. let e : suc k + 1 ≡ suc (k + 1) = omega arith in subst (λ i. is_lt (nat_cmp (slice_index_or (x ∷ y ∷ xs) i d) (slice_index_or (y ∷ xs) k d)) ≡ false) e (sorted (suc k) d (omega arith) (omega (arith, high)))) (λ b. omega (arith, once b, times_more b x (y ∷ xs))),
)
  where
    apart : x ≤ y → x < y
    apart le = elim (cases_eq x y) [
      | inl same ↦ absurd (omega (arith, once x, times_here x (y ∷ xs), ap (λ z. times x (z ∷ xs)) (sym same), times_here x xs))
      | inr other ↦ omega (arith, le, other)
    ]
