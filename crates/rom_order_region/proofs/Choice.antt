-- What holds of a choice.
use Rattle.std.proofs.Common.{◌≡◌, ℕ, ◌<◌, ◌≤◌, Bool, true, false, refl, arith}
use Rattle.std.specs.Prelude.{nat_lt, if◌then◌else◌}
use Rattle.std.proofs.lemmas.Bool.{ltb-true}
use Rattle.std.proofs.lemmas.Bool.Decides.{nat_tests}

-- what holds of both holds of the choice
pub of_choice : {A : Type 0} (P : A → Type 0) (b : Bool) (x y : A) → P x → P y → P (if b then x else y)
of_choice P true x y p q = p
of_choice P false x y p q = q

not_below : (m n : ℕ) → nat_lt m n ≡ false → n ≤ m
not_below m n is = grind (arith, nat_tests)

-- what holds of each one in its case holds of the choice
pub of_below : {A : Type 0} (P : A → Type 0) (m n : ℕ) (x y : A) → (m < n → P x) → (n ≤ m → P y) → P (if nat_lt m n then x else y)
of_below {A} P m n x y p q = go (nat_lt m n) refl
  where
    go : (b : Bool) → nat_lt m n ≡ b → P (if b then x else y)
    go true is = p (ltb-true m n is)
    go false is = q (not_below m n is)
