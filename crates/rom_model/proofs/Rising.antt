-- Rising lists of numbers.
use Rattle.std.proofs.Common.{◌≡◌, inl, inr, ℕ, ◌+◌, ◌<◌, ◌≤◌, false, List, [], ◌∷◌, ◌++◌, refl, ap, arith}
use Rattle.std.proofs.lemmas.Bool.{cases_eq}
use Rattle.std.proofs.lemmas.Bool.Decides.{nat_tests}
use Rattle.rom_model.specs.Chains.{times}
use Rattle.rom_model.specs.Rising.{IsRising, AreBelow, StartsAbove, starts_with}
use Rattle.rom_model.proofs.Times.{times_here, times_away}

pub rising_tail : (x : ℕ) (xs : List ℕ) → IsRising (x ∷ xs) → IsRising xs
rising_tail x [] rising = tt
rising_tail x (y ∷ ys) rising = rising.1

pub rising_back : (xs ys : List ℕ) → IsRising (xs ++ ys) → IsRising ys
rising_back [] ys rising = rising
rising_back (x ∷ xs) ys rising = rising_back xs ys (rising_tail x (xs ++ ys) rising)

-- one number more
pub rising_between : (k : ℕ) (xs ys : List ℕ) → AreBelow k xs → StartsAbove (k + 1) ys → IsRising (xs ++ ys) → IsRising (xs ++ k ∷ ys)
rising_between k [] [] below above rising = tt
rising_between k [] (y ∷ ys) below above rising = (omega (arith, above), rising)
rising_between k (x ∷ []) ys below above rising = (below.0, rising_between k [] ys tt above (rising_tail x ys rising))
rising_between k (x ∷ z ∷ xs) ys below above rising = (rising.0, rising_between k (z ∷ xs) ys below.1 above rising.1)

-- one fewer
pub rising_without : (k : ℕ) (xs ys : List ℕ) → IsRising (xs ++ k ∷ ys) → IsRising (xs ++ ys)
rising_without k [] ys rising = rising_tail k ys rising
rising_without k (x ∷ []) [] rising = tt
rising_without k (x ∷ []) (y ∷ ys) rising = (omega (arith, rising.0, rising.1.0), rising.1.1)
rising_without k (x ∷ z ∷ xs) ys rising = (rising.0, rising_without k (z ∷ xs) ys rising.1)

-- the first that is not below the key is above it, where it is another
pub above_next : (k : ℕ) (ys : List ℕ) → StartsAbove k ys → starts_with k ys ≡ false → StartsAbove (k + 1) ys
above_next k [] above other = tt
above_next k (y ∷ ys) above other = grind (arith, nat_tests)

pub below_push : (key x : ℕ) (xs : List ℕ) → AreBelow key xs → x < key → AreBelow key (xs ++ x ∷ [])
below_push key x [] all lt = (lt, tt)
below_push key x (y ∷ ys) all lt = (all.0, below_push key x ys all.1 lt)

-- a number that is above all, or below all, is none of them
pub none_below : (k : ℕ) (xs : List ℕ) → AreBelow k xs → times k xs ≡ 0
none_below k [] all = refl
none_below k (x ∷ xs) all = omega (arith, times_away k x xs (λ e. absurd (omega (arith, e, all.0))), none_below k xs all.1)

pub none_above : (k : ℕ) (ys : List ℕ) → StartsAbove (k + 1) ys → IsRising ys → times k ys ≡ 0
none_above k [] above rising = refl
none_above k (y ∷ []) above rising = times_away k y [] (λ e. absurd (omega (arith, e, above)))
none_above k (y ∷ z ∷ ys) above rising = omega (arith, times_away k y (z ∷ ys) (λ e. absurd (omega (arith, e, above))), none_above k (z ∷ ys) (omega (arith, above, rising.0)) rising.1)

-- no number stands twice
pub rising_once : (k : ℕ) (xs : List ℕ) → IsRising xs → times k xs ≤ 1
rising_once k [] rising = omega arith
rising_once k (x ∷ xs) rising = elim (cases_eq x k) [
  | inl same ↦ omega (arith, ap (λ y. times k (y ∷ xs)) same, times_here k xs, none_above k xs (first x xs rising k same) (rising_tail x xs rising))
  | inr other ↦ omega (arith, times_away k x xs other, rising_once k xs (rising_tail x xs rising))
]
  where
    first : (x : ℕ) (xs : List ℕ) → IsRising (x ∷ xs) → (k : ℕ) → x ≡ k → StartsAbove (k + 1) xs
    first x [] rising k same = tt
    first x (y ∷ ys) rising k same = omega (arith, rising.0, same)

-- what follows in a rising list is greater
rising_before : (x k : ℕ) (xs ys : List ℕ) → IsRising (x ∷ (xs ++ k ∷ ys)) → x < k
rising_before x k [] ys rising = rising.0
rising_before x k (z ∷ xs) ys rising = omega (arith, rising.0, rising_before z k xs ys rising.1)

pub below_before : (k : ℕ) (xs ys : List ℕ) → IsRising (xs ++ k ∷ ys) → AreBelow k xs
below_before k [] ys rising = tt
below_before k (x ∷ xs) ys rising = (rising_before x k xs ys rising, below_before k xs ys (rising_tail x (xs ++ k ∷ ys) rising))

pub above_behind : (k : ℕ) (ys : List ℕ) → IsRising (k ∷ ys) → StartsAbove (k + 1) ys
above_behind k [] rising = tt
above_behind k (y ∷ ys) rising = omega (arith, rising.0)
