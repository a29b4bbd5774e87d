-- The sets of rising lists of numbers.
use Rattle.std.proofs.Common.{◌≡◌, inl, inr, ℕ, ◌+◌, Bool, true, false, List, [], ◌∷◌, ◌++◌, length, refl, sym, ◌∙◌, ap, arith}
use Rattle.std.specs.Prelude.{◌==◌, ◌||◌, ◌&&◌, not}
use Rattle.std.specs.Ordering.{nat_cmp, eq_by_cmp}
use Rattle.std.specs.Cmp.{unsigned_tied, nat_cmp_total}
use Rattle.std.specs.FinMap.{nat_cmp-IsAntisymmetric}
use Rattle.std.specs.FinSet as set
use Rattle.std.proofs.lemmas.Bool.{cases_eq}
use Rattle.std.proofs.lemmas.Bool.Decides.{nat_tests}
use Rattle.std.proofs.lemmas.List.{length-map}
use Rattle.rom_model.specs.Chains.{each_word}
use Rattle.rom_model.specs.Rising.{IsRising, AreBelow, StartsAbove, starts_with}
use Rattle.rom_model.specs.Region.{IsSet}
use Rattle.rom_model.proofs.Contents.{len-rising}
use Rattle.rom_model.proofs.Rising.{rising_tail}

swap : (a b : ℕ) → (a == b) ≡ (b == a)
swap a b = grind (arith, nat_tests)

turned : (s t : Bool) → s ≡ t → (s || false) ≡ t
turned true t e = e
turned false t e = e

-- whether a rising list has a number is seen at the first that is not below it
pub contains_split : (k : ℕ) (xs ys : List ℕ) → AreBelow k xs → StartsAbove k ys → IsRising (xs ++ ys) → set.contains (set.from_list {R = nat_cmp} (xs ++ ys)) k ≡ starts_with k ys
contains_split k [] [] below above rising = set.contains-empty nat_cmp k
contains_split k [] (y ∷ []) below above rising =
    set.contains-insert nat_cmp_total (set.from_list []) y k ∙ (λ i. unsigned_tied k y i || set.contains-empty nat_cmp k i) ∙ turned (k == y) (y == k) (swap k y)
contains_split k [] (y ∷ z ∷ ys) below above rising =
    let rest = contains_split k [] (z ∷ ys) tt (omega (arith, above, rising.0)) rising.1 in
    let behind : (z == k) ≡ false = grind (arith, nat_tests, above, rising.0) in
    set.contains-insert nat_cmp_total (set.from_list (z ∷ ys)) y k ∙ (λ i. unsigned_tied k y i || (rest ∙ behind) i) ∙ turned (k == y) (y == k) (swap k y)
contains_split k (x ∷ xs) ys below above rising =
    let other : (k == x) ≡ false = grind (arith, nat_tests, below.0) in
    let rest = contains_split k xs ys below.1 above (rising_tail x (xs ++ ys) rising) in
    set.contains-insert nat_cmp_total (set.from_list (xs ++ ys)) x k ∙ (λ i. (unsigned_tied k x ∙ other) i || rest i)

or_swap : (a b c : Bool) → (a || (b || c)) ≡ (b || (a || c))
or_swap true true c = refl
or_swap true false c = refl
or_swap false b c = refl

insert_swap : (s : set.FinSet nat_cmp) (k x : ℕ) → set.insert (set.insert s k) x ≡ set.insert (set.insert s x) k
insert_swap s k x = set.same_set nat_cmp_total nat_cmp-IsAntisymmetric (set.insert (set.insert s k) x) (set.insert (set.insert s x) k) (λ q.
    set.contains-insert nat_cmp_total (set.insert s k) x q ∙ ap (λ b. eq_by_cmp nat_cmp q x || b) (set.contains-insert nat_cmp_total s k q)
    ∙ or_swap (eq_by_cmp nat_cmp q x) (eq_by_cmp nat_cmp q k) (set.contains s q)
    ∙ sym (set.contains-insert nat_cmp_total (set.insert s x) k q ∙ ap (λ b. eq_by_cmp nat_cmp q k || b) (set.contains-insert nat_cmp_total s x q)))

-- the set with one number more, wherever it stands
pub from_list_between : (k : ℕ) (xs ys : List ℕ) → set.from_list {R = nat_cmp} (xs ++ k ∷ ys) ≡ set.insert (set.from_list (xs ++ ys)) k
from_list_between k [] ys = refl
from_list_between k (x ∷ xs) ys = ap (λ s. set.insert s x) (from_list_between k xs ys) ∙ insert_swap (set.from_list (xs ++ ys)) k x

remove_insert : (s : set.FinSet nat_cmp) (k : ℕ) → set.contains s k ≡ false → set.remove (set.insert s k) k ≡ s
remove_insert s k none = set.same_set nat_cmp_total nat_cmp-IsAntisymmetric (set.remove (set.insert s k) k) s (λ q.
    set.contains-remove nat_cmp_total (set.insert s k) k q ∙ ap (λ b. not (eq_by_cmp nat_cmp q k) && b) (set.contains-insert nat_cmp_total s k q)
    ∙ ap (λ b. not b && (b || set.contains s q)) (unsigned_tied q k)
    ∙ elim (cases_eq q k) [
      | inl same ↦ let test : (q == k) ≡ true = grind (arith, nat_tests) in ap (λ b. not b && (b || set.contains s q)) test ∙ sym (ap (set.contains s) same ∙ none)
      | inr other ↦ let test : (q == k) ≡ false = grind (arith, nat_tests) in ap (λ b. not b && (b || set.contains s q)) test
    ])

-- and with one fewer
pub from_list_without : (k : ℕ) (xs ys : List ℕ) → AreBelow k xs → StartsAbove (k + 1) ys → IsRising (xs ++ ys) → set.from_list {R = nat_cmp} (xs ++ ys) ≡ set.remove (set.from_list (xs ++ k ∷ ys)) k
from_list_without k xs ys below above rising =
    let none = contains_split k xs ys below (low ys above) rising ∙ first ys above in
    sym (ap (λ s. set.remove s k) (from_list_between k xs ys) ∙ remove_insert (set.from_list (xs ++ ys)) k none)
  where
    low : (zs : List ℕ) → StartsAbove (k + 1) zs → StartsAbove k zs
    low [] above = tt
    low (z ∷ zs) above = omega (arith, above)

    first : (zs : List ℕ) → StartsAbove (k + 1) zs → starts_with k zs ≡ false
    first [] above = refl
    first (z ∷ zs) above = grind (arith, nat_tests)

-- a set has as many numbers as blocks
pub len_members : {n : ℕ} {w bs : List ℕ} {members : set.FinSet nat_cmp} → IsSet n w bs members → set.len members ≡ length bs
len_members {n} {w} {bs} is = ap (λ s. set.len s) (sym is.keys_are) ∙ len-rising (each_word n w 0 bs) is.rising ∙ length-map bs (λ b. _)
