-- Who stands at an indicator: facts on positions, on whether one of some stands there, and on views that stand at their own
use Rattle.std.proofs.Common.{◌≡◌, ◌≢◌, ℕ, zero, suc, ◌+◌, ◌/◌, ◌<◌, List, [], ◌∷◌, ◌++◌, map, set, sym, refl, ap, ◌∙◌, subst, ⊎_elim, arith, eq-eqb, ne_eqb, eqb, cond, Bool, true, false}
use mathlib.Core.Logic.{dite}
use mathlib.Core.Option.{some, some-injective, some-ne-none}
use native.Mathlib.Decide.{ℕ_discrete}
use lib.ListN.{get_elem?}
use Rattle.atomic_table.proofs.Lists.{at_set, at_map}
use Rattle.rom_rule.specs.Places.{indicator_of}
use Rattle.rom_rule.specs.Readers.{Differ, StandsAtOwn, any_stands, hit, stands}
use Rattle.rom_rule.specs.Views.{Each, indicator_in, is_reading, number_in, position_in}
use Rattle.rom_rule.specs.declared.views.Position.{Position}
use Rattle.rom_rule.specs.declared.views.Position.TheVariants.{Arrived, Holds, Out, Reads}
use Rattle.rom_rule.specs.declared.views.View.{View}

-- facts on positions
pub stands_one : (i v : ℕ) → i ≢ v → hit v i ≡ 0
stands_one i v ne = ap (λ (c : Bool). let z : ℕ = cond c 1 0 in z) (ne_eqb v i (λ e. ne (sym e)))

pub stands_here : (v : ℕ) → hit v v ≡ 1
stands_here v = ap (λ (c : Bool). let z : ℕ = cond c 1 0 in z) (eq-eqb v v refl)

-- it stands at one indicator at most
pub elsewhere : (i v : ℕ) (p : Position) → stands v p ≡ 1 → i ≢ v → stands i p ≡ 0
elsewhere i v Out h ne = refl
elsewhere i v (Holds w) h ne = refl
elsewhere i v (Arrived w) h ne = dite (ℕ_discrete v w) (λ e. stands_one i w (λ d. ne (d ∙ sym e))) (λ n. let z = stands_one v w n in absurd (omega arith))
elsewhere i v (Reads w s f image) h ne = dite (ℕ_discrete v w) (λ e. stands_one i w (λ d. ne (d ∙ sym e))) (λ n. let z = stands_one v w n in absurd (omega arith))

-- where it stands
pub stands_only : (v : ℕ) (p : Position) → stands v p ≡ 1 → v ≡ indicator_in p
stands_only v Out h = cc
stands_only v (Holds w) h = cc
stands_only v (Arrived w) h = dite (ℕ_discrete v w) (λ e. e) (λ n. let z = stands_one v w n in absurd (omega arith))
stands_only v (Reads w s f image) h = dite (ℕ_discrete v w) (λ e. e) (λ n. let z = stands_one v w n in absurd (omega arith))

pub reading_stands : (v : ℕ) (p : Position) → is_reading p ≡ true → v ≡ indicator_in p → stands v p ≡ 1
reading_stands v Out h e = cc
reading_stands v (Holds w) h e = cc
reading_stands v (Arrived w) h e = cc
reading_stands v (Reads w s f image) h e = subst (λ (k : ℕ). hit w k ≡ 1) (sym e) (stands_here w)

-- one of them stands there
pub any_here : (k j : ℕ) (ps : List Position) (p : Position) → get_elem? ps j ≡ some p → stands k p ≡ 1 → any_stands k ps ≡ 1
any_here k j [] p e h = absurd (some-ne-none p (sym e))
any_here k zero (q ∷ ps) p e h = let here : stands k q ≡ 1 = ap (stands k) (some-injective q p e) ∙ h in ap (λ (t : Bool). let z : ℕ = cond t 1 (any_stands k ps) in z) (eq-eqb (stands k q) 1 here)
any_here k (suc j) (q ∷ ps) p e h = by_case (eqb (stands k q) 1) (any_here k j ps p e h)
  where
    by_case : (t : Bool) → any_stands k ps ≡ 1 → cond t 1 (any_stands k ps) ≡ 1
    by_case true rest = refl
    by_case false rest = rest

-- none of them does
pub any_none : (k : ℕ) (vs : List View) → ((j : ℕ) (v : View) → get_elem? vs j ≡ some v → stands k v.position ≢ 1) → any_stands k (map position_in vs) ≡ 0
any_none k [] h = refl
any_none k (v ∷ vs) h = ap (λ (t : Bool). let z : ℕ = cond t 1 (any_stands k (map position_in vs)) in z) (ne_eqb (stands k v.position) 1 (h 0 v refl)) ∙ any_none k vs (λ j w e. h (suc j) w e)

-- one of them has changed, and stands there as before
pub any_same : (k id : ℕ) (vs : List View) (v w : View) → get_elem? vs id ≡ some v → stands k w.position ≡ stands k v.position → any_stands k (map position_in (set vs id w)) ≡ any_stands k (map position_in vs)
any_same k id [] v w e same = refl
any_same k zero (u ∷ vs) v w e same = ap (λ (n : ℕ). let z : ℕ = cond (eqb n 1) 1 (any_stands k (map position_in vs)) in z) (same ∙ ap (λ (x : View). stands k x.position) (sym (some-injective u v e)))
any_same k (suc id) (u ∷ vs) v w e same = ap (λ (n : ℕ). let z : ℕ = cond (eqb (stands k u.position) 1) 1 n in z) (any_same k id vs v w e same)

-- there is one more, which stands elsewhere
pub any_more : (k : ℕ) (ps : List Position) (p : Position) → stands k p ≡ 0 → any_stands k (ps ++ p ∷ []) ≡ any_stands k ps
any_more k [] p h = ap (λ (n : ℕ). let z : ℕ = cond (eqb n 1) 1 0 in z) h
any_more k (q ∷ ps) p h = ap (λ (n : ℕ). let z : ℕ = cond (eqb (stands k q) 1) 1 n in z) (any_more k ps p h)

placed : (vs : List View) (id : ℕ) (v w : View) → get_elem? vs id ≡ some v → get_elem? (set vs id w) id ≡ some w
placed [] id v w e = absurd (some-ne-none v (sym e))
placed (x ∷ xs) zero v w e = refl
placed (x ∷ xs) (suc id) v w e = placed xs id v w e

-- it has changed, and stands there
pub any_now : (k id : ℕ) (vs : List View) (v w : View) → get_elem? vs id ≡ some v → stands k w.position ≡ 1 → any_stands k (map position_in (set vs id w)) ≡ 1
any_now k id vs v w at h = any_here k id (map position_in (set vs id w)) w.position (at_map position_in (set vs id w) id w (placed vs id v w at)) h

-- A view that stood at an indicator, as at its own, is there no more, and so nobody is.
pub any_left : (k id : ℕ) (vs : List View) (v w : View) → Differ (map number_in vs) → Each (λ _. StandsAtOwn) vs → get_elem? vs id ≡ some v → 0 < v.number → stands k v.position ≡ 1 → stands k w.position ≡ 0 → any_stands k (map position_in (set vs id w)) ≡ 0
any_left k id vs v w differ own at numbered here gone = any_none k (set vs id w) (λ j c e there.
    ⊎_elim (λ (t : (j ≡ id) × (w ≡ c)). let z : stands k c.position ≡ 0 = ap (λ (x : View). stands k x.position) (sym t.1) ∙ gone in absurd (omega arith))
    (λ (t : (j ≢ id) × (get_elem? vs j ≡ some c)). let same : c.number ≡ v.number = sym (own j c t.1 k there) ∙ own id v at k here in
    absurd (t.0 (differ j id v.number (at_map number_in vs j c t.1 ∙ ap some same) (at_map number_in vs id v at) numbered)))
    (at_set vs id j w c e))

-- it stands where it stood
pub own_on : (v w : View) → w.position ≡ v.position → w.number ≡ v.number → StandsAtOwn v → StandsAtOwn w
own_on v w position number h k s = h k (ap (stands k) (sym position) ∙ s) ∙ sym number

pub own_nowhere : (w : View) → ((k : ℕ) → stands k w.position ≡ 0) → StandsAtOwn w
own_nowhere w none k s = let z = none k in absurd (omega arith)

-- an indicator of its own
pub own_here : (n v i : ℕ) → 0 < n → v < 2 → i ≡ indicator_of n v → i / 2 + 1 ≡ n
own_here n v i pos low is = omega arith
