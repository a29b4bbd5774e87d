-- One offset more, at the index of the first range near it.
use Rattle.std.proofs.Common.{◌≡◌, ◌≢◌, ℕ, suc, ◌+◌, ◌<◌, ◌≤◌, List, [], ◌∷◌, ◌++◌, length, get_or, take, drop, set, sym, ap, ◌∙◌, subst, arith, get_or-drop, length-drop, append_assoc}
use Rattle.std.specs.List.{insert, remove}
use Rattle.std.proofs.lemmas.List.{drop_more, drop_all, set_split, take-append-drop, take_more_set, drop-set-lt, get_or_default}
use Rattle.rom_ranges.specs.Holding.{AddsOffset}
use Rattle.rom_ranges.specs.Ranges.{AreApart, BeginPast}
use Rattle.rom_ranges.specs.declared.range.Range.{Range}
use Rattle.rom_ranges.proofs.Near.{apart_drop}
use Rattle.rom_ranges.proofs.Adding.{holds_from, holds_last, holds_before, holds_front, holds_same, holds_end, holds_join}

-- two reads at one place
pub read_same : (rs : List Range) (i : ℕ) (r s : Range) → i < length rs → r ≡ get_or rs i r → s ≡ get_or rs i s → r ≡ s
read_same rs i r s lt e f = e ∙ (get_or_default rs i r s lt ∙ sym f)

-- what is left from a place on
left_from : (rs : List Range) (i : ℕ) (r : Range) → i < length rs → r ≡ get_or rs i r → drop i rs ≡ r ∷ drop (suc i) rs
left_from rs i r lt e = drop_more rs i r lt ∙ ((λ j. sym e j ∷ drop (i + 1) rs) ∙ ap (λ (n : ℕ). r ∷ drop n rs) (let f : i + 1 ≡ suc i = omega arith in f))

-- the ranges before the place end before the offset
abbrev pub EndBefore : ℕ → ℕ → List Range → Type 0
EndBefore at i rs = (k : ℕ) (d : Range) → k < i → (get_or rs k d).end < at

pub placed_last : (at i : ℕ) (rs : List Range) → AreApart rs → EndBefore at i rs → i ≡ length rs → AddsOffset at rs (insert rs i (record { start = at; end = at + 1 }))
placed_last at i rs apart before e = let x : Range = record { start = at; end = at + 1 } in
    holds_from at i rs (x ∷ drop i rs) apart (omega (arith, e)) before (subst (λ (l : List Range). AddsOffset at l (x ∷ l)) (sym (drop_all i rs (omega (arith, e)))) (holds_last at))

module _ (at i : ℕ) (rs : List Range) (apart : AreApart rs) (before : EndBefore at i rs) (lt : i < length rs) (r : Range) (e : r ≡ get_or rs i r) where
  here : drop i rs ≡ r ∷ drop (suc i) rs
  here = left_from rs i r lt e

  rest_apart : AreApart (r ∷ drop (suc i) rs)
  rest_apart = subst AreApart here (apart_drop i rs apart)

  -- a range in the place of another
  put : (v : Range) → AddsOffset at (r ∷ drop (suc i) rs) (v ∷ drop (suc i) rs) → AddsOffset at rs (set rs i v)
  put v is = subst (λ (l : List Range). AddsOffset at rs l) (sym (set_split rs i v lt))
      (holds_from at i rs (v ∷ drop (suc i) rs) apart (omega (arith, lt)) before (subst (λ (l : List Range). AddsOffset at l (v ∷ drop (suc i) rs)) (sym here) is))

  pub placed_before : at + 1 < r.start → AddsOffset at rs (insert rs i (record { start = at; end = at + 1 }))
  placed_before low = let x : Range = record { start = at; end = at + 1 } in
      holds_from at i rs (x ∷ drop i rs) apart (omega (arith, lt)) before (subst (λ (l : List Range). AddsOffset at l (x ∷ l)) (sym here) (holds_before at r (drop (suc i) rs) low rest_apart))

  pub placed_front : at < r.start → r.start ≤ at + 1 → AddsOffset at rs (set rs i (record { start = at; end = r.end }))
  placed_front low high = put (record { start = at; end = r.end }) (holds_front at r (drop (suc i) rs) low high rest_apart)

  pub placed_same : r.start ≤ at → at < r.end → AddsOffset at rs rs
  placed_same low high = subst (λ (l : List Range). AddsOffset at rs l) (take-append-drop i rs)
      (holds_from at i rs (drop i rs) apart (omega (arith, lt)) before (subst (λ (l : List Range). AddsOffset at l l) (sym here) (holds_same at r (drop (suc i) rs) low high rest_apart)))

  pub placed_end : r.end ≡ at → ((d : Range) → suc i < length rs → (get_or rs (suc i) d).start ≢ at + 1) → AddsOffset at rs (set rs i (record { start = r.start; end = at + 1 }))
  placed_end ends none = put (record { start = r.start; end = at + 1 }) (holds_end at r (drop (suc i) rs) ends (past (drop (suc i) rs) (subst (λ (n : ℕ). BeginPast n (drop (suc i) rs)) ends rest_apart.1) next) rest_apart)
    where
      past : (l : List Range) → BeginPast at l → ((d : Range) → 0 < length l → (get_or l 0 d).start ≢ at + 1) → BeginPast (at + 1) l
      past [] begins other = tt
      past (s ∷ l) begins other = let ne : s.start ≢ at + 1 = other s (omega arith) in omega (arith, begins, ne)

      next : (d : Range) → 0 < length (drop (suc i) rs) → (get_or (drop (suc i) rs) 0 d).start ≢ at + 1
      next d some is = let long = length-drop (suc i) rs in none d (omega (arith, some, long))
          (ap (λ (s : Range). s.start) (sym (get_or-drop (suc i) rs 0 d ∙ ap (λ (n : ℕ). get_or rs n d) (let f : suc i + 0 ≡ suc i = omega arith in f))) ∙ is)

  pub placed_join : (s : Range) → r.end ≡ at → suc i < length rs → s ≡ get_or rs (suc i) s → s.start ≡ at + 1 → AddsOffset at rs (remove (set rs i (record { start = r.start; end = s.end })) (i + 1))
  placed_join s ends more f begins =
      let v : Range = record { start = r.start; end = s.end } in
      let two : drop (suc i) rs ≡ s ∷ drop (suc (suc i)) rs = left_from rs (suc i) s more f in
      let tail : List Range = drop (suc (suc i)) rs in
      let both : drop i rs ≡ r ∷ s ∷ tail = here ∙ ap (λ (l : List Range). r ∷ l) two in
      let same : remove (set rs i v) (i + 1) ≡ take i rs ++ v ∷ tail
      = (λ j. take_more_set rs i v lt j ++ drop-set-lt (suc (i + 1)) rs i v (omega arith) j)
      ∙ (append_assoc (take i rs) (v ∷ []) (drop (suc (i + 1)) rs) ∙ ap (λ (n : ℕ). take i rs ++ v ∷ drop n rs) (let g : suc (i + 1) ≡ suc (suc i) = omega arith in g)) in
      subst (λ (l : List Range). AddsOffset at rs l) (sym same)
      (holds_from at i rs (v ∷ tail) apart (omega (arith, lt)) before (subst (λ (l : List Range). AddsOffset at l (v ∷ tail)) (sym both) (holds_join at r s tail ends begins (subst AreApart both (apart_drop i rs apart)))))
