-- Ranges that are written one after another, in pieces.
use Rattle.std.proofs.Common.{◌≡◌, ◌⊎◌, inl, inr, ⊎_elim, ℕ, zero, suc, ◌+◌, ◌-◌, ◌<◌, ◌≤◌, List, [], ◌∷◌, length, get_or, slice_index, take, refl, sym, ◌∙◌, ap, subst, arith}
use Rattle.std.proofs.lemmas.Bool.{cases_lt}
use Rattle.rom_model.specs.Space.{ChangesOnly}
use Rattle.rom_model.proofs.Changes.{changes_none, changes_joins, changes_wider}
use Rattle.rom_device.specs.Device.{ShownDevice, Does}
use Rattle.rom_device.proofs.Going.{does_by, does_on}
use Rattle.rom_ranges.specs.Ranges.{IsInRange, IsHeld, held_count}
use Rattle.rom_ranges.specs.declared.range.Range.{Range}
use Rattle.rom_twin.specs.Ranges.{IsBut, WritesPart, WritesRanges}

-- one piece more of a range
pub written_on : (base start at count : ℕ) (m mid new : List ℕ) → ChangesOnly (base + at) count mid new
    → ((k : ℕ) → start ≤ k → k < at → slice_index mid (base + k) ≡ slice_index m k) → ((k : ℕ) → k < count → slice_index new (base + at + k) ≡ slice_index m (at + k))
    → (k : ℕ) → start ≤ k → k < at + count → slice_index new (base + k) ≡ slice_index m k
written_on base start at count m mid new within so_far put k low high = elim (cases_lt k at) [
  | inl earlier ↦ within.before (base + k) (omega (arith, earlier)) ∙ so_far k low earlier
  | inr now ↦
      let there : base + at + (k - at) ≡ base + k = omega (arith, now) in
      let here : at + (k - at) ≡ k = omega (arith, now) in
      ap (slice_index new) (sym there) ∙ put (k - at) (omega (arith, now, high)) ∙ ap (slice_index m) here
]

-- writes to a part, one after another
pub part_none : (base from count : ℕ) (m x : List ℕ) → WritesPart base from count m x x
part_none base from count m x = record { only = changes_none (base + from) count x; either = λ k lt. inl refl }

pub part_joins : (base from count : ℕ) (m x y z : List ℕ) → WritesPart base from count m x y → WritesPart base from count m y z → WritesPart base from count m x z
part_joins base from count m x y z first second = record {
  only = changes_joins (base + from) count x y z first.only second.only;
  either = λ k lt. elim (second.either k lt) [
    | inl stays ↦ elim (first.either k lt) [
      | inl stayed ↦ inl (stays ∙ stayed)
      | inr put ↦ inr (stays ∙ put)
    ]
    | inr put ↦ inr put
  ];
}

-- what is written of a piece is written of a part that has it
pub part_wider : (base start len from count : ℕ) → start ≤ from → from + count ≤ start + len → (m x y : List ℕ) → WritesPart base from count m x y → WritesPart base start len m x y
part_wider base start len from count low high m x y piece = record {
  only = changes_wider (base + start) len (base + from) count (omega (arith, low)) (omega (arith, high)) x y piece.only;
  either = λ k lt. elim (cases_lt (start + k) from) [
    | inl before ↦ inl (piece.only.before (base + (start + k)) (omega (arith, before)))
    | inr past ↦ elim (cases_lt (start + k) (from + count)) [
      | inl inside ↦
          let there : from + (start + k - from) ≡ start + k = omega (arith, past) in
          subst (λ (j : ℕ). (get_or y (base + j) 0 ≡ get_or x (base + j) 0) ⊎ (get_or y (base + j) 0 ≡ get_or m j 0)) there (piece.either (start + k - from) (omega (arith, past, inside)))
      | inr behind ↦ inl (piece.only.behind (base + (start + k)) (omega (arith, behind)))
    ]
  ];
}

-- an offset in the range of that number is held
pub held_at : (i : ℕ) (rs : List Range) → i < length rs → (k : ℕ) → IsInRange (get_or rs i record { start = 0; end = 0 }) k → IsHeld rs k
held_at i [] lt k is = absurd (omega (arith, lt))
held_at zero (r ∷ rs) lt k is = inl is
held_at (suc i) (r ∷ rs) lt k is = inr (held_at i rs (omega (arith, lt)) k is)

range_wider : (base len : ℕ) (r : Range) → r.end ≤ len → (x y : List ℕ) → ChangesOnly (base + r.start) (r.end - r.start) x y → ChangesOnly base len x y
range_wider base len r fits x y within = record {
  as_long = within.as_long;
  before = λ k h. within.before k (omega (arith, h));
  behind = λ k h. elim (cases_lt k (base + r.start)) [
    | inl low ↦ within.before k low
    | inr high ↦ within.behind k (omega (arith, h, high, fits))
  ];
}

-- what is written of a range is written of the region
pub ranges_by : (rs : List Range) (base : ℕ) (m : List ℕ) (r : Range) → r.end ≤ length m → ((k : ℕ) → IsInRange r k → IsHeld rs k) → (x y : List ℕ) → WritesPart base r.start (r.end - r.start) m x y → WritesRanges rs base m x y
ranges_by rs base m r fits held x y part = record {
  only = range_wider base (length m) r fits x y part.only;
  either = λ k lt. elim (cases_lt k r.start) [
    | inl low ↦ inl (part.only.before (base + k) (omega (arith, low)))
    | inr ge ↦ elim (cases_lt k r.end) [
      | inl in_it ↦
          let there : r.start + (k - r.start) ≡ k = omega (arith, ge) in
          subst (λ (j : ℕ). (get_or y (base + j) 0 ≡ get_or x (base + j) 0) ⊎ (IsHeld rs k × (get_or y (base + j) 0 ≡ get_or m j 0))) there
          (⊎_elim (λ stays. inl stays) (λ put. inr (held k (ge, in_it), put)) (part.either (k - r.start) (omega (arith, ge, in_it))))
      | inr high ↦ inl (part.only.behind (base + k) (omega (arith, ge, high)))
    ]
  ];
}

pub ranges_none : (rs : List Range) (base : ℕ) (m x : List ℕ) → WritesRanges rs base m x x
ranges_none rs base m x = record { only = changes_none base (length m) x; either = λ k lt. inl refl }

pub ranges_joins : (rs : List Range) (base : ℕ) (m x y z : List ℕ) → WritesRanges rs base m x y → WritesRanges rs base m y z → WritesRanges rs base m x z
ranges_joins rs base m x y z first second = record {
  only = changes_joins base (length m) x y z first.only second.only;
  either = λ k lt. elim (second.either k lt) [
    | inl stays ↦ elim (first.either k lt) [
      | inl stayed ↦ inl (stays ∙ stayed)
      | inr put ↦ inr (put.0, stays ∙ put.1)
    ]
    | inr put ↦ inr put
  ];
}

-- on a device: one piece more of a range, and one range more
module _ {D : Type 0} (shown : ShownDevice D) (base : ℕ) (m now : List ℕ) (same : now ≡ m) (a b c : D) where
  pub part_on : (start len from count : ℕ) → start ≤ from → from + count ≤ start + len → Does shown (WritesPart base start len m) a b → Does shown (WritesPart base from count now) b c → Does shown (WritesPart base start len m) a c
  part_on start len from count low high so_far more = does_on shown (WritesPart base start len m) (part_joins base start len m) a b c so_far
      (does_by shown (WritesPart base from count m) (WritesPart base start len m) (part_wider base start len from count low high m) b c (subst (λ (l : List ℕ). Does shown (WritesPart base from count l) b c) same more))

  pub ranges_on : (rs : List Range) (i : ℕ) → i < length rs → let r : Range = get_or rs i record { start = 0; end = 0 } in r.end ≤ length m
      → Does shown (WritesRanges rs base m) a b → Does shown (WritesPart base r.start (r.end - r.start) now) b c → Does shown (WritesRanges rs base m) a c
  ranges_on rs i lt fits so_far more =
      let r : Range = get_or rs i record { start = 0; end = 0 } in
      does_on shown (WritesRanges rs base m) (ranges_joins rs base m) a b c so_far
      (does_by shown (WritesPart base r.start (r.end - r.start) m) (WritesRanges rs base m) (ranges_by rs base m r fits (held_at i rs lt)) b c (subst (λ (l : List ℕ). Does shown (WritesPart base r.start (r.end - r.start) l) b c) same more))

-- one range more
pub but_step : (r : Range) (rs : List Range) (base : ℕ) (m w w' : List ℕ) → IsBut (r ∷ rs) base m w
    → ChangesOnly (base + r.start) (r.end - r.start) w w' → ((k : ℕ) → r.start ≤ k → k < r.end → slice_index w' (base + k) ≡ slice_index m k) → IsBut rs base m w'
but_step r rs base m w w' so_far within written k lt away = elim (cases_lt k r.start) [
  | inl low ↦ within.before (base + k) (omega (arith, low)) ∙ so_far k lt (λ held. ⊎_elim (λ here. absurd (omega (arith, here.0, low))) away held)
  | inr ge ↦ elim (cases_lt k r.end) [
    | inl in_it ↦ written k ge in_it
    | inr high ↦ within.behind (base + k) (omega (arith, ge, high)) ∙ so_far k lt (λ held. ⊎_elim (λ here. absurd (omega (arith, here.1, high))) away held)
  ]
]

-- with the range of all offsets nothing is asked
pub whole_but : (base len : ℕ) (r : Range) (m w : List ℕ) → length m ≡ len → r.start ≡ 0 → r.end ≡ len → IsBut (r ∷ []) base m w
whole_but base len r m w long start end k lt away = absurd (away (inl (omega (arith, start), omega (arith, long, lt, end))))

-- how many offsets are in the ranges up to one, and in all
pub held_more : (i : ℕ) (rs : List Range) → i < length rs → let r : Range = get_or rs i record { start = 0; end = 0 } in
    (held_count (take (i + 1) rs) ≡ held_count (take i rs) + (r.end - r.start)) × (held_count (take (i + 1) rs) ≤ held_count rs)
held_more i [] lt = absurd (omega (arith, lt))
held_more zero (r ∷ rs) lt = (omega arith, omega arith)
held_more (suc i) (r ∷ rs) lt =
    let more = held_more i rs (omega (arith, lt)) in
    let e : suc i + 1 ≡ suc (i + 1) = omega arith in
    let same : held_count (take (suc i + 1) (r ∷ rs)) ≡ r.end - r.start + held_count (take (i + 1) rs) = ap (λ (z : ℕ). held_count (take z (r ∷ rs))) e in
    (omega (arith, same, more.0), omega (arith, same, more.1))
