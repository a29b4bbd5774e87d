-- Words that are copied one after another, range by range.
use Rattle.std.proofs.Common.{◌≡◌, ◌≢◌, ◌⊎◌, inl, inr, ⊎_elim, ℕ, ◌+◌, ◌<◌, ◌≤◌, List, [], ◌∷◌, length, get_or, set, sym, refl, subst, ◌∙◌, arith, get_or-set_same, get_or-set_other, Some}
use Rattle.std.proofs.lemmas.Bool.{cases_lt}
use Rattle.std.proofs.lemmas.List.{ext_get_or}
use Rattle.rom_combine.specs.Copying.{Copies, with_side, words_at}
use Rattle.rom_lr.specs.Side.{other_side, side_number}
use Rattle.rom_lr.specs.declared.side.Side.{Side}
use Rattle.rom_lr.specs.declared.side.Side.TheVariants.{Back, Main}
use Rattle.rom_ranges.specs.Changes.{SameBut}
use Rattle.rom_ranges.specs.Ranges.{IsInRange}
use Rattle.rom_ranges.specs.declared.range.Range.{Range}
use Rattle.rom_rule.specs.Readers.{Settled}
use Rattle.rom_rule.specs.Views.{plan_of}
use Rattle.rom_rule.specs.declared.views.Plan.{Plan}
use Rattle.rom_rule.specs.declared.views.View.{View}

-- the words that a side was given, and those of the other one
pub words_given : (side : Side) (words : List ℕ) (p : Plan) → words_at side (with_side side words p) ≡ words
words_given Main words p = refl
words_given Back words p = refl

pub words_beside : (side : Side) (words : List ℕ) (p : Plan) → words_at (other_side side) (with_side side words p) ≡ words_at (other_side side) p
words_beside Main words p = refl
words_beside Back words p = refl

-- given again, and given what it has
pub side_again : (side : Side) (words was : List ℕ) (p : Plan) → with_side side words (with_side side was p) ≡ with_side side words p
side_again Main words was p = refl
side_again Back words was p = refl

pub side_still : (side : Side) (p : Plan) → with_side side (words_at side p) p ≡ p
side_still Main p = refl
side_still Back p = refl

pub side_sized : (side : Side) (p : Plan) (n : ℕ) → (length p.main ≡ n) × (length p.back ≡ n) → length (words_at side p) ≡ n
side_sized Main p n is = is.0
side_sized Back p n is = is.1

-- nobody reads it still
pub side_unread : (side : Side) (u v : View) (words : List ℕ) → v ≡ record u { plan = Some (with_side side words (plan_of u)); steps = v.steps } → ((plan_of u).side ≡ side_number (other_side side)) × Settled u.base (plan_of u)
    → ((plan_of v).side ≡ side_number (other_side side)) × Settled v.base (plan_of v)
side_unread Main u v words e is = subst (λ (z : View). ((plan_of z).side ≡ 1) × Settled z.base (plan_of z)) (sym e) is
side_unread Back u v words e is = subst (λ (z : View). ((plan_of z).side ≡ 0) × Settled z.base (plan_of z)) (sym e) is

-- the words from one offset on and before another are copied
pub record CopiesUpTo (start at : ℕ) (source old new : List ℕ) : Type 0 where
  pub held : (k : ℕ) → start ≤ k → k < at → get_or new k 0 ≡ get_or source k 0
  pub others : (k : ℕ) → (k < start) ⊎ (at ≤ k) → get_or new k 0 ≡ get_or old k 0

pub copied_none : (start : ℕ) (source old : List ℕ) → CopiesUpTo start start source old old
copied_none start source old = record { held = λ k low high. absurd (omega (arith, low, high)); others = λ k out. refl }

pub copied_more : (start at : ℕ) (source old new : List ℕ) → start ≤ at → at < length new → CopiesUpTo start at source old new → CopiesUpTo start (at + 1) source old (set new at (get_or source at 0))
copied_more start at source old new le lt is = record {
  held = λ k low high. ⊎_elim (λ less. get_or-set_other new at k (get_or source at 0) 0 (let ne : k ≢ at = omega (arith, less) in ne) ∙ is.held k low less) (λ ge. here k (omega (arith, high, ge))) (cases_lt k at);
  others = λ k out. get_or-set_other new at k (get_or source at 0) 0 (not_here k out) ∙ is.others k (⊎_elim (λ before. inl before) (λ behind. inr (omega (arith, behind))) out);
}
  where
    here : (k : ℕ) → k ≡ at → get_or (set new at (get_or source at 0)) k 0 ≡ get_or source k 0
    here k e = subst (λ (n : ℕ). get_or (set new at (get_or source at 0)) n 0 ≡ get_or source n 0) (sym e) (get_or-set_same new at (get_or source at 0) 0 lt)

    not_here : (k : ℕ) → (k < start) ⊎ (at + 1 ≤ k) → k ≢ at
    not_here k (inl before) e = omega (arith, before, e, le)
    not_here k (inr behind) e = omega (arith, behind, e)

-- a whole range; where it is empty, nothing was copied
pub copied_range : (range : Range) (at : ℕ) (source old new : List ℕ) → range.end ≤ at → (at ≤ range.end) ⊎ (at ≡ range.start) → CopiesUpTo range.start at source old new → Copies range source old new
copied_range range at source old new past end is = record {
  held = λ k here. is.held k here.0 (omega (arith, here.1, past));
  others = λ k not. is.others k (out k not end);
}
  where
    out : (k : ℕ) → (IsInRange range k → ⊥) → (at ≤ range.end) ⊎ (at ≡ range.start) → (k < range.start) ⊎ (at ≤ k)
    out k not (inl le) = ⊎_elim (λ before. inl before) (λ ge. ⊎_elim (λ high. absurd (not (ge, high))) (λ behind. inr (omega (arith, behind, le))) (cases_lt k range.end)) (cases_lt k range.start)
    out k not (inr e) = ⊎_elim (λ before. inl before) (λ ge. inr (omega (arith, ge, e))) (cases_lt k range.start)

-- then the words differ from the source in the other ranges alone
pub same_but_more : (range : Range) (ranges : List Range) (source old new : List ℕ) → SameBut (range ∷ ranges) old source → Copies range source old new → SameBut ranges new source
same_but_more range ranges source old new but is k lt none =
    ⊎_elim (λ before. is.others k (λ here. omega (arith, here.0, before)) ∙ but k lt (⊎_elim (λ here. omega (arith, here.0, before)) none))
    (λ ge. ⊎_elim (λ high. is.held k (ge, high)) (λ behind. is.others k (λ here. omega (arith, here.1, behind)) ∙ but k lt (⊎_elim (λ here. omega (arith, here.1, behind)) none)) (cases_lt k range.end))
    (cases_lt k range.start)

-- and after all of them not at all
pub same_all : (source new : List ℕ) → length new ≡ length source → SameBut [] new source → new ≡ source
same_all source new long but = ext_get_or 0 new source long (λ k lt. but k (omega (arith, lt, long)) (λ none. none))
