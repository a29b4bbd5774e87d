-- Which offsets some ranges hold, and how many.
use Rattle.std.specs.Prelude.{◌⊎◌, ℕ, ◌+◌, ◌-◌, ◌<◌, ◌≤◌, List, [], ◌∷◌}
use Rattle.rom_ranges.specs.declared.range.Range.{Range}

-- the offset is in the range
abbrev pub IsInRange : Range → ℕ → Type 0
IsInRange range k = (range.start ≤ k) × (k < range.end)

-- the offset is in one of the ranges
abbrev pub IsHeld : List Range → ℕ → Type 0
IsHeld [] k = ⊥
IsHeld (range ∷ ranges) k = IsInRange range k ⊎ IsHeld ranges k

-- each range ends at this length or before
abbrev pub AreWithin : ℕ → List Range → Type 0
AreWithin len [] = Unit {0}
AreWithin len (range ∷ ranges) = (range.end ≤ len) × AreWithin len ranges

-- the sum of the ranges' lengths, which is how many offsets they hold where they are disjoint
abbrev pub held_count : List Range → ℕ
held_count [] = 0
held_count (range ∷ ranges) = range.end - range.start + held_count ranges

-- the first range begins past this offset
abbrev pub BeginPast : ℕ → List Range → Type 0
BeginPast at [] = Unit {0}
BeginPast at (range ∷ ranges) = at < range.start

-- Each range holds an offset, and the next one begins past its end: they are rising and disjoint, and do not touch.
abbrev pub AreApart : List Range → Type 0
AreApart [] = Unit {0}
AreApart (range ∷ ranges) = (range.start < range.end) × BeginPast range.end ranges × AreApart ranges
