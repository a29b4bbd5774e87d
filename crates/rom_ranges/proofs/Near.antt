-- Ranges that are apart, by their ends.
use Rattle.std.proofs.Common.{ℕ, zero, suc, ◌<◌, List, [], ◌∷◌, length, get_or, drop, arith, ltb}
use Rattle.std.specs.List.Sorted.{IsNonDecreasingBy, IsPartitionedBy}
use Rattle.std.proofs.lemmas.List.Sorted.{IsPartitionedBy-ltb}
use Rattle.rom_ranges.specs.Ranges.{AreApart, BeginPast}
use Rattle.rom_ranges.specs.declared.range.Range.{Range}

-- each of them ends past an offset before the first
ends_past : (at : ℕ) (ranges : List Range) (j : ℕ) (d : Range) → BeginPast at ranges → AreApart ranges → j < length ranges → at < (get_or ranges j d).end
ends_past at [] j d past apart lt = absurd (omega arith)
ends_past at (r ∷ ranges) zero d past apart lt = omega (arith, past, apart.0)
ends_past at (r ∷ ranges) (suc j) d past apart lt = let rest = ends_past r.end ranges j d apart.1 apart.2 (omega arith) in omega (arith, past, apart.0, rest)

pub ends_rise : (ranges : List Range) → AreApart ranges → IsNonDecreasingBy (λ (r : Range). r.end) ranges
ends_rise [] apart i j d le lt = absurd (omega arith)
ends_rise (r ∷ ranges) apart zero zero d le lt = omega arith
ends_rise (r ∷ ranges) apart zero (suc j) d le lt = let rest = ends_past r.end ranges j d apart.1 apart.2 (omega arith) in omega (arith, rest)
ends_rise (r ∷ ranges) apart (suc i) zero d le lt = absurd (omega arith)
ends_rise (r ∷ ranges) apart (suc i) (suc j) d le lt = ends_rise ranges apart.2 i j d (omega arith) (omega arith)

pub ends_part : (ranges : List Range) (at : ℕ) → AreApart ranges → IsPartitionedBy (λ (r : Range). ltb r.end at) ranges
ends_part ranges at apart = IsPartitionedBy-ltb (λ (r : Range). r.end) ranges at (ends_rise ranges apart)

-- each range but the last one ends before a later one begins
begin_past : (at : ℕ) (ranges : List Range) (j : ℕ) (d : Range) → BeginPast at ranges → AreApart ranges → j < length ranges → at < (get_or ranges j d).start
begin_past at [] j d past apart lt = absurd (omega arith)
begin_past at (r ∷ ranges) zero d past apart lt = past
begin_past at (r ∷ ranges) (suc j) d past apart lt = let rest = begin_past r.end ranges j d apart.1 apart.2 (omega arith) in omega (arith, past, apart.0, rest)

pub ends_before : (ranges : List Range) (i j : ℕ) (d e : Range) → AreApart ranges → i < j → j < length ranges → (get_or ranges i d).end < (get_or ranges j e).start
ends_before [] i j d e apart less lt = absurd (omega arith)
ends_before (r ∷ ranges) i zero d e apart less lt = absurd (omega arith)
ends_before (r ∷ ranges) zero (suc j) d e apart less lt = begin_past r.end ranges j e apart.1 apart.2 (omega arith)
ends_before (r ∷ ranges) (suc i) (suc j) d e apart less lt = ends_before ranges i j d e apart.2 (omega arith) (omega arith)

pub apart_drop : (i : ℕ) (ranges : List Range) → AreApart ranges → AreApart (drop i ranges)
apart_drop zero ranges apart = apart
apart_drop (suc i) [] apart = tt
apart_drop (suc i) (r ∷ ranges) apart = apart_drop i ranges apart.2
