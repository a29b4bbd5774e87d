-- The numbers that a walk passes are no more than those of the set that are below the key.
use Rattle.std.proofs.Common.{◌≡◌, inl, inr, ℕ, ◌+◌, ◌<◌, ◌≤◌, Bool, true, false, List, [], ◌∷◌, ◌++◌, length, refl, sym, ◌∙◌, ap, arith}
use Rattle.std.specs.Prelude.{◌==◌, ◌||◌, nat_lt, filter, if◌then◌else◌}
use Rattle.std.specs.List.{list_any}
use Rattle.std.specs.Ordering.{nat_cmp, eq_by_cmp}
use Rattle.std.specs.Cmp.{unsigned_tied, nat_cmp_total}
use Rattle.std.specs.FinSet as set
use Rattle.std.proofs.lemmas.Bool.{cases_eq, cases_lt}
use Rattle.std.proofs.lemmas.Bool.Decides.{nat_tests}
use Rattle.rom_model.specs.Rising.{IsRising, AreBelow}
use Rattle.rom_model.specs.Walks.{keys_below}

-- how many of the list are below the key
below : ℕ → List ℕ → ℕ
below key ys = length (filter (λ k. nat_lt k key) ys)

below_more : (key y : ℕ) (ys : List ℕ) → below key (y ∷ ys) ≡ (if nat_lt y key then 1 else 0) + below key ys
unfolding below
below_more key y ys = go (nat_lt y key)
  where
    go : (t : Bool) → length (if t then y ∷ filter (λ k. nat_lt k key) ys else filter (λ k. nat_lt k key) ys) ≡ (if t then 1 else 0) + length (filter (λ k. nat_lt k key) ys)
    go true = omega arith
    go false = omega arith

below_in : (key y : ℕ) (ys : List ℕ) → y < key → below key (y ∷ ys) ≡ 1 + below key ys
below_in key y ys lt = let test : nat_lt y key ≡ true = grind (arith, nat_tests) in omega (arith, below_more key y ys ∙ ap (λ t. (if t then 1 else 0) + below key ys) test)

below_out : (key y : ℕ) (ys : List ℕ) → key ≤ y → below key (y ∷ ys) ≡ below key ys
below_out key y ys le = let test : nat_lt y key ≡ false = grind (arith, nat_tests) in omega (arith, below_more key y ys ∙ ap (λ t. (if t then 1 else 0) + below key ys) test)

below_none : (key : ℕ) → below key [] ≡ 0
unfolding below
below_none key = refl

below_le : (x key : ℕ) (ys : List ℕ) → x ≤ key → below x ys ≤ below key ys
below_le x key [] le = omega (arith, below_none x)
below_le x key (y ∷ ys) le = elim (cases_lt y x) [
  | inl low ↦ omega (arith, below_in x y ys low, below_in key y ys (omega arith), below_le x key ys le)
  | inr high ↦ elim (cases_lt y key) [
    | inl lt ↦ omega (arith, below_out x y ys high, below_in key y ys lt, below_le x key ys le)
    | inr ge ↦ omega (arith, below_out x y ys high, below_out key y ys ge, below_le x key ys le)
  ]
]

-- one that is among them makes a difference
below_one : (x key : ℕ) (ys : List ℕ) → x < key → list_any (eq_by_cmp nat_cmp x) ys ≡ true → below x ys + 1 ≤ below key ys
below_one x key [] lt among = absurd (let same : false ≡ true = among in cc)
below_one x key (y ∷ ys) lt among = elim (cases_eq x y) [
  | inl same ↦ omega (arith, below_out x y ys (omega (arith, same)), below_in key y ys (omega (arith, same)), below_le x key ys (omega arith))
  | inr other ↦
      let test : (x == y) ≡ false = grind (arith, nat_tests) in
      let rest = below_one x key ys lt (sym (ap (λ b. b || list_any (eq_by_cmp nat_cmp x) ys) (unsigned_tied x y ∙ test)) ∙ among) in
      elim (cases_lt y x) [
        | inl low ↦ omega (arith, below_in x y ys low, below_in key y ys (omega arith), rest)
        | inr high ↦ elim (cases_lt y key) [
          | inl less ↦ omega (arith, below_out x y ys high, below_in key y ys less, rest)
          | inr ge ↦ omega (arith, below_out x y ys high, below_out key y ys ge, rest)
        ]
      ]
]

-- each of the numbers is in the set
abbrev AreIn : set.FinSet nat_cmp → List ℕ → Type 0
AreIn s [] = Unit {0}
AreIn s (x ∷ xs) = (set.contains s x ≡ true) × AreIn s xs

in_more : (s : set.FinSet nat_cmp) (x : ℕ) (ys : List ℕ) → AreIn s ys → AreIn (set.insert s x) ys
in_more s x [] all = tt
in_more s x (y ∷ ys) all = (set.contains-insert nat_cmp_total s x y ∙ ap (λ b. eq_by_cmp nat_cmp y x || b) all.0 ∙ either (eq_by_cmp nat_cmp y x), in_more s x ys all.1)
  where
    either : (b : Bool) → (b || true) ≡ true
    either true = refl
    either false = refl

in_here : (x : ℕ) (s : set.FinSet nat_cmp) → set.contains (set.insert s x) x ≡ true
in_here x s = let test : (x == x) ≡ true = grind (arith, nat_tests) in set.contains-insert nat_cmp_total s x x ∙ ap (λ b. b || set.contains s x) (unsigned_tied x x ∙ test)

in_front : (xs ys : List ℕ) → AreIn (set.from_list (xs ++ ys)) xs
in_front [] ys = tt
in_front (x ∷ xs) ys = (in_here x (set.from_list (xs ++ ys)), in_more (set.from_list (xs ++ ys)) x xs (in_front xs ys))

passed_from : (s : set.FinSet nat_cmp) (key m x : ℕ) (xs : List ℕ) → IsRising (x ∷ xs) → AreBelow key (x ∷ xs) → AreIn s (x ∷ xs) → m ≤ below x (set.items s) → m + length (x ∷ xs) ≤ below key (set.items s)
passed_from s key m x [] rising all among least = omega (arith, least, below_one x key (set.items s) all.0 (sym (set.contains-items s x) ∙ among.0))
passed_from s key m x (y ∷ ys) rising all among least =
    omega (arith, passed_from s key (m + 1) y ys rising.1 all.1 among.1 (omega (arith, least, below_one x y (set.items s) rising.0 (sym (set.contains-items s x) ∙ among.0))))

rising_front : (xs ys : List ℕ) → IsRising (xs ++ ys) → IsRising xs
rising_front [] ys rising = tt
rising_front (x ∷ []) ys rising = tt
rising_front (x ∷ z ∷ xs) ys rising = (rising.0, rising_front (z ∷ xs) ys rising.1)

pub passed : (key : ℕ) (xs ys : List ℕ) → IsRising (xs ++ ys) → AreBelow key xs → length xs ≤ keys_below (set.from_list (xs ++ ys)) key
unfolding below
passed key [] ys rising all = omega arith
passed key (x ∷ xs) ys rising all = omega (arith, passed_from (set.from_list ((x ∷ xs) ++ ys)) key 0 x xs (rising_front (x ∷ xs) ys rising) all (in_front (x ∷ xs) ys) (omega arith))
