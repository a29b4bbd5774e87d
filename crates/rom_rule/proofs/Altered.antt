-- A request that is changed, found by its caller's number.
use Rattle.std.proofs.Common.{◌≡◌, ◌≢◌, ℕ, zero, suc, ◌<◌, ◌⊎◌, List, [], ◌∷◌, ◌++◌, map, length, get_or, sym, refl, ap, ◌∙◌, subst, inl, inr, arith, Bool, true, false, cond, eqb, eq-eqb, ne_eqb}
use Rattle.std.specs.Prelude.{◌==◌, ◌&&◌, not}
use mathlib.Core.Logic.{dite}
use mathlib.Core.Option.{some, some-injective, some-ne-none}
use native.Mathlib.Decide.{ℕ_discrete}
use lib.ListN.{get_elem?}
use Rattle.rom_rule.specs.CallKinds.{alter, answering}
use Rattle.rom_rule.specs.Calls.{caller_in, is_owed, owed, owing}
use Rattle.rom_rule.specs.Views.{Each}
use Rattle.rom_rule.specs.declared.views.Request.{Request}
use Rattle.rom_rule.proofs.Told.{map_map, map_alike, at_mapped, owed_alike}

pub at_or : {A : Type 0} (l : List A) (i : ℕ) (d : A) → i < length l → get_elem? l i ≡ some (get_or l i d)
at_or [] i d lt = absurd (omega arith)
at_or (x ∷ xs) zero d lt = refl
at_or (x ∷ xs) (suc i) d lt = at_or xs i d (omega arith)

pub or_at : {A : Type 0} (l : List A) (i : ℕ) (a d : A) → get_elem? l i ≡ some a → get_or l i d ≡ a
or_at [] i a d e = absurd (some-ne-none a (sym e))
or_at (x ∷ xs) zero a d e = some-injective x a e
or_at (x ∷ xs) (suc i) a d e = or_at xs i a d e

pub at_split : {A : Type 0} (xs ys : List A) (i : ℕ) (a : A) → get_elem? (xs ++ ys) i ≡ some a → (get_elem? xs i ≡ some a) ⊎ ((j : ℕ) × (get_elem? ys j ≡ some a))
at_split [] ys i a e = inr (i, e)
at_split (x ∷ xs) ys zero a e = inl e
at_split (x ∷ xs) ys (suc i) a e = at_split xs ys i a e

-- the find of caller c, as g makes it
module _ (c : ℕ) (g : Request → Request) where
  alter_here : (f : Request) → f.caller ≡ c → alter c g f ≡ g f
  alter_here f e = ap (λ (t : Bool). cond t (g f) f) (eq-eqb f.caller c e)

  alter_else : (f : Request) → f.caller ≢ c → alter c g f ≡ f
  alter_else f ne = ap (λ (t : Bool). cond t (g f) f) (ne_eqb f.caller c ne)

  pub each_altered : (Q : Request → Type 0) (fs : List Request) → ((q : ℕ) (f : Request) → get_elem? fs q ≡ some f → f.caller ≡ c → Q (g f)) → ((q : ℕ) (f : Request) → get_elem? fs q ≡ some f → f.caller ≢ c → Q f) → Each (λ _. Q) (map (alter c g) fs)
  each_altered Q fs here other q h e = let m = at_mapped (alter c g) fs q h e in let f : Request = m.0 in
      dite (ℕ_discrete f.caller c) (λ is. subst Q (sym (alter_here f is) ∙ m.2) (here q f m.1 is)) (λ ne. subst Q (sym (alter_else f ne) ∙ m.2) (other q f m.1 ne))

  pub callers_altered : (fs : List Request) → ((f : Request) → (g f).caller ≡ f.caller) → map caller_in (map (alter c g) fs) ≡ map caller_in fs
  callers_altered fs same = map_map caller_in (alter c g) fs ∙ map_alike (λ f. caller_in (alter c g f)) caller_in fs (λ f. by_case f (eqb f.caller c))
    where
      by_case : (f : Request) (t : Bool) → (cond t (g f) f).caller ≡ f.caller
      by_case f true = same f
      by_case f false = refl

  -- who is owed stays, where g leaves the caller and the answer
  pub owed_kept : (d : ℕ) (fs : List Request) → ((f : Request) → is_owed d (g f) ≡ is_owed d f) → owed d (map (alter c g) fs) ≡ owed d fs
  owed_kept d fs same = owed_alike d (alter c g) fs (λ f. by_case f (eqb f.caller c))
    where
      by_case : (f : Request) (t : Bool) → is_owed d (cond t (g f) f) ≡ is_owed d f
      by_case f true = same f
      by_case f false = refl

pub owing_kept : (made : Bool) (d : ℕ) (fs gs : List Request) → owed d fs ≡ owed d gs → owing made d fs ≡ owing made d gs
owing_kept true d fs gs e = e
owing_kept false d fs gs e = refl

-- the others are owed what they were, where the call of caller c is answered
pub owed_other : (c d : ℕ) (fs : List Request) → d ≢ c → owed d (map (alter c answering) fs) ≡ owed d fs
owed_other c d fs ne = owed_alike d (alter c answering) fs (λ f. dite (ℕ_discrete f.caller c)
    (λ e. ap (is_owed d) (alter_here c answering f e) ∙ (no_and f.caller d (not true) (λ z. ne (sym z ∙ e)) ∙ sym (no_and f.caller d (not f.answered) (λ z. ne (sym z ∙ e)))))
    (λ other. ap (is_owed d) (alter_else c answering f other)))
  where
    no_and : (x y : ℕ) (t : Bool) → x ≢ y → ((x == y) && t) ≡ false
    no_and x y t differ = ap (λ (u : Bool). u && t) (ne_eqb x y differ)
