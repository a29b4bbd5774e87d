-- A part of an inspection that comes to one thing, and parts one after another.
use Rattle.std.proofs.Common.{◌≡◌, ⊎_elim, sym, ◌∙◌, ap, subst}
use Rattle.std.specs.Prelude.{Result, Ok, Err}
use Rattle.rom_model.specs.declared.unfit.Break.{Break}
use Rattle.rom_model.specs.Parts.{Then}

-- the part comes to one thing: so where it finds something it breaks nowhere, and it has one first break
abbrev pub IsSingle : {A : Type 0} → (Result A Break → Type 0) → Type 0
IsSingle {A} part = (x y : Result A Break) → part x → part y → x ≡ y

pub one_ok : {A : Type 0} (a b : A) → ◌≡◌ {A = Result A Break} (Ok a) (Ok b) → a ≡ b
one_ok a b same = cc

pub one_err : {A : Type 0} (e d : Break) → ◌≡◌ {A = Result A Break} (Err e) (Err d) → e ≡ d
one_err e d same = cc

pub not_both : {A : Type 0} (a : A) (e : Break) → ◌≡◌ {A = Result A Break} (Ok a) (Err e) → ⊥
not_both a e same = cc

pub one_value : {A : Type 0} (t : Result A Break) → IsSingle (λ (r : Result A Break). r ≡ t)
one_value t x y f g = f ∙ sym g

module _ {A B : Type 0} (first : Result A Break → Type 0) (second : A → Result B Break → Type 0) (one : IsSingle first) (others : (a : A) → IsSingle (second a)) where
  found_both : (a b : A) (x y : Result B Break) → first (Ok a) → first (Ok b) → second a x → second b y → x ≡ y
  found_both a b x y f g s t = others b x y (let same = one_ok a b (one (Ok a) (Ok b) f g) in subst (λ c. second c x) same s) t

  pub then_single : (x y : Result B Break) → Then first second x → Then first second y → x ≡ y
  then_single (Ok x) (Ok y) f g = found_both f.0 g.0 (Ok x) (Ok y) f.1 g.1 f.2 g.2
  then_single (Ok x) (Err e) f g = ⊎_elim
      (λ broke. absurd (not_both f.0 e (one (Ok f.0) (Err e) f.1 broke)))
      (λ more. found_both f.0 more.0 (Ok x) (Err e) f.1 more.1 f.2 more.2)
      g
  then_single (Err e) (Ok x) f g = ⊎_elim
      (λ broke. absurd (not_both g.0 e (one (Ok g.0) (Err e) g.1 broke)))
      (λ more. found_both more.0 g.0 (Err e) (Ok x) more.1 g.1 more.2 g.2)
      f
  then_single (Err e) (Err d) f g = ⊎_elim
      (λ broke. ⊎_elim
      (λ also. ap (λ (z : Break). Err z) (one_err {A = A} e d (one (Err e) (Err d) broke also)))
      (λ more. absurd (not_both more.0 e (one (Ok more.0) (Err e) more.1 broke)))
      g)
      (λ more. ⊎_elim
      (λ broke. absurd (not_both more.0 d (one (Ok more.0) (Err d) more.1 broke)))
      (λ also. found_both more.0 also.0 (Err e) (Err d) more.1 also.1 more.2 also.2)
      g)
      f
