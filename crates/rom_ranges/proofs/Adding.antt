-- One offset more, where it is near some ranges, and behind others.
use Rattle.std.proofs.Common.{◌≡◌, ◌⊎◌, inl, inr, ⊎_elim, ℕ, zero, suc, ◌+◌, ◌<◌, ◌≤◌, List, [], ◌∷◌, ◌++◌, length, get_or, take, drop, arith}
use Rattle.std.proofs.lemmas.Bool.{cases_lt}
use Rattle.rom_ranges.specs.Holding.{AddsOffset}
use Rattle.rom_ranges.specs.Ranges.{AreApart, BeginPast, IsHeld}
use Rattle.rom_ranges.specs.declared.range.Range.{Range}

-- behind the last one
pub holds_last : (at : ℕ) → AddsOffset at [] (record { start = at; end = at + 1 } ∷ [])
holds_last at = record {
  held = λ k. (⊎_elim (λ is. inr (omega (arith, is.0, is.1))) (λ no. absurd no), ⊎_elim (λ no. absurd no) (λ e. inl (omega (arith, e), omega (arith, e))));
  apart = (omega arith, tt, tt);
  within = λ len lt rest. (omega (arith, lt), tt);
  longer = omega arith;
  count = omega arith;
  past = λ e lt rest. lt;
}

-- before the first one, without touching it
pub holds_before : (at : ℕ) (r : Range) (rs : List Range) → at + 1 < r.start → AreApart (r ∷ rs) → AddsOffset at (r ∷ rs) (record { start = at; end = at + 1 } ∷ r ∷ rs)
holds_before at r rs lt apart = record {
  held = λ k. (⊎_elim (λ is. inr (omega (arith, is.0, is.1))) (λ was. inl was), ⊎_elim (λ was. inr was) (λ e. inl (omega (arith, e), omega (arith, e))));
  apart = (omega arith, lt, apart);
  within = λ len low rest. (omega (arith, low), rest);
  longer = omega arith;
  count = omega arith;
  past = λ e low rest. low;
}

-- right before the first one
front_in : (at : ℕ) (r : Range) (rs : List Range) (k : ℕ) → r.start ≤ at + 1 → at ≤ k → k < r.end → IsHeld (r ∷ rs) k ⊎ (k ≡ at)
front_in at r rs k le low high = ⊎_elim (λ lt. inr (omega (arith, le, low, lt))) (λ ge. inl (inl (ge, high))) (cases_lt k r.start)

pub holds_front : (at : ℕ) (r : Range) (rs : List Range) → at < r.start → r.start ≤ at + 1 → AreApart (r ∷ rs) → AddsOffset at (r ∷ rs) (record r { start = at } ∷ rs)
holds_front at r rs lt le apart = record {
  held = λ k. (
    ⊎_elim (λ is. front_in at r rs k le is.0 is.1) (λ was. inl (inr was)),
    ⊎_elim (⊎_elim (λ is. inl (omega (arith, lt, is.0), is.1)) (λ was. inr was)) (λ e. inl (omega (arith, e), omega (arith, e, lt, apart.0))),
  );
  apart = (omega (arith, lt, apart.0), apart.1, apart.2);
  within = λ len low rest. rest;
  longer = omega arith;
  count = omega (arith, lt, le);
  past = λ e low rest. low;
}

-- in the first one
pub holds_same : (at : ℕ) (r : Range) (rs : List Range) → r.start ≤ at → at < r.end → AreApart (r ∷ rs) → AddsOffset at (r ∷ rs) (r ∷ rs)
holds_same at r rs le lt apart = record {
  held = λ k. (λ was. inl was, ⊎_elim (λ was. was) (λ e. inl (omega (arith, e, le), omega (arith, e, lt))));
  apart = apart;
  within = λ len low rest. rest;
  longer = omega arith;
  count = omega arith;
  past = λ e low rest. rest;
}

-- right behind the first one, without touching the next
end_in : (at : ℕ) (r : Range) (rs : List Range) (k : ℕ) → r.end ≡ at → r.start ≤ k → k < at + 1 → IsHeld (r ∷ rs) k ⊎ (k ≡ at)
end_in at r rs k e low high = ⊎_elim (λ lt. inl (inl (low, omega (arith, e, lt)))) (λ ge. inr (omega (arith, high, ge))) (cases_lt k at)

pub holds_end : (at : ℕ) (r : Range) (rs : List Range) → r.end ≡ at → BeginPast (at + 1) rs → AreApart (r ∷ rs) → AddsOffset at (r ∷ rs) (record r { end = at + 1 } ∷ rs)
holds_end at r rs e past apart = record {
  held = λ k. (
    ⊎_elim (λ is. end_in at r rs k e is.0 is.1) (λ was. inl (inr was)),
    ⊎_elim (⊎_elim (λ is. inl (is.0, omega (arith, e, is.1))) (λ was. inr was)) (λ f. inl (omega (arith, e, f, apart.0), omega (arith, f))),
  );
  apart = (omega (arith, e, apart.0), past, apart.2);
  within = λ len low rest. (omega (arith, low), rest.1);
  longer = omega arith;
  count = omega (arith, e, apart.0);
  past = λ f low rest. rest;
}

-- between the first one and the next
join_in : (at : ℕ) (r s : Range) (rs : List Range) (k : ℕ) → r.end ≡ at → s.start ≡ at + 1 → r.start ≤ k → k < s.end → IsHeld (r ∷ s ∷ rs) k ⊎ (k ≡ at)
join_in at r s rs k e f low high = ⊎_elim (λ lt. ⊎_elim (λ less. inl (inl (low, omega (arith, e, less)))) (λ ge. inr (omega (arith, lt, ge))) (cases_lt k at)) (λ ge. inl (inr (inl (omega (arith, f, ge), high)))) (cases_lt k (at + 1))

pub holds_join : (at : ℕ) (r s : Range) (rs : List Range) → r.end ≡ at → s.start ≡ at + 1 → AreApart (r ∷ s ∷ rs) → AddsOffset at (r ∷ s ∷ rs) (record r { end = s.end } ∷ rs)
holds_join at r s rs e f apart = record {
  held = λ k. (
    ⊎_elim (λ is. join_in at r s rs k e f is.0 is.1) (λ was. inl (inr (inr was))),
    ⊎_elim
        (⊎_elim (λ is. inl (is.0, omega (arith, e, f, is.1, apart.2.0))) (⊎_elim (λ is. inl (omega (arith, e, f, is.0, apart.0), is.1)) (λ was. inr was)))
        (λ g. inl (omega (arith, e, g, apart.0), omega (arith, f, g, apart.2.0))),
  );
  apart = (omega (arith, e, f, apart.0, apart.2.0), apart.2.1, apart.2.2);
  within = λ len low rest. (rest.1.0, rest.1.1);
  longer = omega arith;
  count = omega (arith, e, f, apart.0, apart.2.0);
  past = λ g low rest. rest;
}

-- behind one more
holds_behind : (at : ℕ) (r : Range) (old new : List Range) → r.end < at → AreApart (r ∷ old) → AddsOffset at old new → AddsOffset at (r ∷ old) (r ∷ new)
holds_behind at r old new lt apart is = record {
  held = λ k. (
    ⊎_elim (λ here. inl (inl here)) (λ there. ⊎_elim (λ was. inl (inr was)) (λ e. inr e) ((is.held k).0 there)),
    ⊎_elim (⊎_elim (λ here. inl here) (λ was. inr ((is.held k).1 (inl was)))) (λ e. inr ((is.held k).1 (inr e))),
  );
  apart = (apart.0, is.past r.end lt apart.1, is.apart);
  within = λ len low rest. (rest.0, is.within len low rest.1);
  longer = omega (arith, is.longer);
  count = omega (arith, is.count);
  past = λ e low rest. rest;
}

-- behind the first i
pub holds_from : (at i : ℕ) (ranges new : List Range) → AreApart ranges → i ≤ length ranges → ((k : ℕ) (d : Range) → k < i → (get_or ranges k d).end < at) → AddsOffset at (drop i ranges) new → AddsOffset at ranges (take i ranges ++ new)
holds_from at zero ranges new apart le before is = is
holds_from at (suc i) [] new apart le before is = absurd (omega arith)
holds_from at (suc i) (r ∷ ranges) new apart le before is = holds_behind at r ranges (take i ranges ++ new) (before 0 r (omega arith)) apart (holds_from at i ranges new apart.2 (omega arith) (λ k d lt. before (suc k) d (omega (arith, lt))) is)
