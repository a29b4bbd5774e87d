-- Entries whose keys rise.
use Rattle.std.specs.Prelude.{ℕ, ◌<◌, List, [], ◌∷◌}

-- each key is below this one
abbrev pub KeysBelow : ℕ → List (ℕ × ℕ) → Type 0
KeysBelow q [] = Unit {0}
KeysBelow q (e ∷ es) = (e.0 < q) × KeysBelow q es

-- each key is above this one
abbrev pub KeysAbove : ℕ → List (ℕ × ℕ) → Type 0
KeysAbove q [] = Unit {0}
KeysAbove q (e ∷ es) = (q < e.0) × KeysAbove q es

-- the keys rise
abbrev pub EntriesRise : List (ℕ × ℕ) → Type 0
EntriesRise [] = Unit {0}
EntriesRise (e ∷ es) = KeysAbove e.0 es × EntriesRise es
