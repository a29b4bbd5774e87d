-- What queries ask of entries in the order of their keys.
use Rattle.std.specs.Prelude.{ℕ, ◌&&◌, nat_le, List, map, filter, find, sum, Option}

-- the first entry whose key is at least this one
abbrev pub first_from : ℕ → List (ℕ × ℕ) → Option (ℕ × ℕ)
first_from key es = find (λ e. nat_le key e.0) es

-- the entries whose keys lie from low to high, both included
abbrev pub inside : ℕ → ℕ → List (ℕ × ℕ) → List (ℕ × ℕ)
inside low high es = filter (λ e. nat_le low e.0 && nat_le e.0 high) es

-- the sum of the values
abbrev pub total : List (ℕ × ℕ) → ℕ
total es = sum (map (λ e. e.1) es)
