-- How many offsets ranges hold that are apart.
use Rattle.std.proofs.Common.{ℕ, ◌+◌, ◌≤◌, List, [], ◌∷◌, arith}
use Rattle.rom_ranges.specs.Ranges.{AreApart, AreWithin, BeginPast, held_count}
use Rattle.rom_ranges.specs.declared.range.Range.{Range}

-- past an offset there are no more than from there to the length
count_past : (at len : ℕ) (ranges : List Range) → at ≤ len → BeginPast at ranges → AreApart ranges → AreWithin len ranges → at + held_count ranges ≤ len
count_past at len [] le past apart within = omega (arith, le)
count_past at len (r ∷ ranges) le past apart within = let rest = count_past r.end len ranges within.0 apart.1 apart.2 within.1 in omega (arith, rest, past, apart.0)

-- no more than the length that they are within
pub count_within : (len : ℕ) (ranges : List Range) → AreApart ranges → AreWithin len ranges → held_count ranges ≤ len
count_within len [] apart within = omega arith
count_within len (r ∷ ranges) apart within = let rest = count_past r.end len ranges within.0 apart.1 apart.2 within.1 in omega (arith, rest, apart.0)
