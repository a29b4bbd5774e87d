-- A balanced tree is no higher than its size allows.
use Rattle.std.proofs.Common.{◌≡◌, inl, inr, ℕ, zero, suc, ◌+◌, ◌-◌, ◌<◌, ◌≤◌, max, Bool, true, false, ◌∷◌, ◌++◌, length, refl, ◌∙◌, ap, arith, length-append}
use Rattle.std.specs.Prelude.{nat_le, if◌then◌else◌}
use Rattle.std.proofs.lemmas.Bool.{cases_eq, cases_lt}
use Rattle.std.proofs.lemmas.Bool.Decides.{nat_tests}
use Rattle.rom_order_region.specs.Tree.{Tree, Leaf, Node, entries, height, IsBalanced}
use Rattle.rom_order_region.specs.High.{fib, highest, high}

pub fib_none : fib 0 ≡ 0
unfolding fib
fib_none = refl

pub fib_one : fib 1 ≡ 1
unfolding fib
fib_one = refl

fib_suc : (n : ℕ) → fib (suc (suc n)) ≡ fib (suc n) + fib n
unfolding fib
fib_suc n = refl

pub fib_next : (n : ℕ) → fib (n + 2) ≡ fib (n + 1) + fib n
fib_next n =
    let two : n + 2 ≡ suc (suc n) = omega arith in
    let one : suc n ≡ n + 1 = omega arith in
    ap fib two ∙ fib_suc n ∙ ap (λ m. fib m + fib n) one

fib_rises : (n : ℕ) → fib n ≤ fib (n + 1)
fib_rises zero = let e : 0 + 1 ≡ 1 = omega arith in omega (arith, fib_none)
fib_rises (suc n) = let e : suc n + 1 ≡ n + 2 = omega arith in let d : suc n ≡ n + 1 = omega arith in omega (arith, ap fib e, ap fib d, fib_next n)

pub fib_up : (n m : ℕ) → fib n ≤ fib (n + m)
fib_up n zero = let e : n + 0 ≡ n = omega arith in omega (arith, ap fib e)
fib_up n (suc m) = let e : n + suc m ≡ n + m + 1 = omega arith in omega (arith, ap fib e, fib_rises (n + m), fib_up n m)

pub fib_le : (n m : ℕ) → n ≤ m → fib n ≤ fib m
fib_le n m le = let e : n + (m - n) ≡ m = omega arith in omega (arith, ap fib e, fib_up n (m - n))

-- it rises by one at least from 2 on
pub fib_least : (n : ℕ) → n + 1 ≤ fib (n + 2)
fib_least zero = let e : 0 + 2 ≡ 2 = omega arith in omega (arith, fib_next 0, fib_one, ap fib e)
fib_least (suc n) =
    let e : suc n + 2 ≡ n + 1 + 2 = omega arith in
    let d : n + 1 + 1 ≡ n + 2 = omega arith in
    omega (arith, ap fib e, fib_next (n + 1), ap fib d, fib_least n, fib_le 1 (n + 1) (omega arith), fib_one)

-- what is said of the greatest height
pub record IsHighest (s h : ℕ) : Type 0 where
  pub within : fib (h + 2) - 1 ≤ s
  pub greatest : (g : ℕ) → fib (g + 2) - 1 ≤ s → g ≤ h

pub record IsHighestUpTo (s m h : ℕ) : Type 0 where
  pub within : fib (h + 2) - 1 ≤ s
  pub greatest : (g : ℕ) → g ≤ m → fib (g + 2) - 1 ≤ s → g ≤ h

start : fib (0 + 2) - 1 ≤ 0
start = omega (arith, fib_next 0, fib_one, fib_none)

up_to : (s m : ℕ) → IsHighestUpTo s m (highest s m)
unfolding highest
up_to s zero = record { within = omega (arith, start); greatest = λ g le fits. le }
up_to s (suc m) = go (nat_le (fib (m + 3) - 1) s) refl (up_to s m)
  where
    low : (g : ℕ) → nat_le (fib (m + 3) - 1) s ≡ false → g ≤ suc m → fib (g + 2) - 1 ≤ s → g ≤ m
    low g is le fits = elim (cases_eq g (suc m)) [
      | inl same ↦ absurd (let e : g + 2 ≡ m + 3 = omega arith in let more : s < fib (m + 3) - 1 = grind (arith, nat_tests) in omega (arith, ap fib e))
      | inr other ↦ omega arith
    ]

    go : (b : Bool) → nat_le (fib (m + 3) - 1) s ≡ b → IsHighestUpTo s m (highest s m) → IsHighestUpTo s (suc m) (if b then suc m else highest s m)
    go true is before = record {
      within = let e : suc m + 2 ≡ m + 3 = omega arith in let fits : fib (m + 3) - 1 ≤ s = grind (arith, nat_tests) in omega (arith, ap fib e);
      greatest = λ g le fits. le;
    }
    go false is before = record { within = before.within; greatest = λ g le fits. before.greatest g (low g is le fits) fits }

pub high_is : (s : ℕ) → IsHighest s (high s)
unfolding high
high_is s =
    let h = up_to s s in
    record { within = h.within; greatest = λ g fits. h.greatest g (omega (arith, fits, fib_least g)) fits }

-- the bound on the height
pub fib_height : (t : Tree) → IsBalanced t → fib (height t + 2) ≤ length (entries t) + 1
fib_height Leaf p = omega (arith, fib_next 0, fib_one, fib_none)
fib_height (Node b k v l r) p =
    node (height l) (height r) (length (entries l)) (length (entries r)) p.0 p.1 (fib_height l p.2) (fib_height r p.3) (length (entries l ++ (k, v) ∷ entries r)) (omega (arith, length-append (entries l) ((k, v) ∷ entries r)))
  where
    top : (x y a c : ℕ) → x ≤ y + 1 → y ≤ x → fib (x + 2) ≤ a + 1 → fib (y + 2) ≤ c + 1 → fib (x + 1 + 2) ≤ a + c + 1 + 1
    top x y a c low high_x one two =
        let e : x + 1 + 1 ≡ x + 2 = omega arith in
        omega (arith, fib_next (x + 1), ap fib e, fib_le (x + 1) (y + 2) (omega arith), one, two)

    node : (x y a c : ℕ) → x ≤ y + 1 → y ≤ x + 1 → fib (x + 2) ≤ a + 1 → fib (y + 2) ≤ c + 1 → (m : ℕ) → m ≡ a + c + 1 → fib (max x y + 1 + 2) ≤ m + 1
    node x y a c low high_x one two m is = elim (cases_lt x y) [
      | inl less ↦ let e : max x y + 1 + 2 ≡ y + 1 + 2 = omega arith in omega (arith, ap fib e, top y x c a (omega arith) (omega arith) two one, is)
      | inr ge ↦ let e : max x y + 1 + 2 ≡ x + 1 + 2 = omega arith in omega (arith, ap fib e, top x y a c (omega arith) ge one two, is)
    ]

pub height_high : (t : Tree) → IsBalanced t → height t ≤ high (length (entries t))
height_high t p = (high_is (length (entries t))).greatest (height t) (omega (arith, fib_height t p))

-- The tree of a heap of the greatest order is no higher than 21.
twenty_four : (f : ℕ → ℕ) → f 0 ≡ 0 → f 1 ≡ 1 → ((n : ℕ) → f (n + 2) ≡ f (n + 1) + f n) → f 24 ≡ 46368
twenty_four f zero_is one_is next =
    let s6 : f 6 ≡ 8 = omega (arith, zero_is, one_is, next 0, next 1, next 2, next 3, next 4) in
    let s7 : f 7 ≡ 13 = omega (arith, zero_is, one_is, next 0, next 1, next 2, next 3, next 4, next 5) in
    let s12 : f 12 ≡ 144 = omega (arith, s6, s7, next 6, next 7, next 8, next 9, next 10) in
    let s13 : f 13 ≡ 233 = omega (arith, s6, s7, next 6, next 7, next 8, next 9, next 10, next 11) in
    let s18 : f 18 ≡ 2584 = omega (arith, s12, s13, next 12, next 13, next 14, next 15, next 16) in
    let s19 : f 19 ≡ 4181 = omega (arith, s12, s13, next 12, next 13, next 14, next 15, next 16, next 17) in
    omega (arith, s18, s19, next 18, next 19, next 20, next 21, next 22)

pub high_most : (s : ℕ) → s ≤ 32768 → high s ≤ 21
high_most s le = elim (cases_lt 21 (high s)) [
  | inl more ↦ absurd (omega (arith, (high_is s).within, twenty_four fib fib_none fib_one fib_next, fib_le 24 (high s + 2) (omega arith)))
  | inr few ↦ few
]
