-- Lists of numbers that rise strictly, and where a key stands in one.
use Rattle.std.specs.Prelude.{ℕ, ◌<◌, ◌≤◌, Bool, false, ◌==◌, List, [], ◌∷◌}

-- the numbers rise strictly
abbrev pub IsRising : List ℕ → Type 0
IsRising [] = Unit {0}
IsRising (x ∷ []) = Unit {0}
IsRising (x ∷ y ∷ xs) = (x < y) × IsRising (y ∷ xs)

-- each of the numbers is below the key
abbrev pub AreBelow : ℕ → List ℕ → Type 0
AreBelow key [] = Unit {0}
AreBelow key (x ∷ xs) = (x < key) × AreBelow key xs

-- the first of the numbers, where there is one, is not below the key
abbrev pub StartsAbove : ℕ → List ℕ → Type 0
StartsAbove key [] = Unit {0}
StartsAbove key (x ∷ xs) = key ≤ x

-- whether the first is the key
abbrev pub starts_with : ℕ → List ℕ → Bool
starts_with key [] = false
starts_with key (x ∷ xs) = x == key
