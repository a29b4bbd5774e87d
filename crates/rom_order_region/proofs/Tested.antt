-- What tests of numbers, and of both of two things, tell.
use Rattle.std.proofs.Common.{◌≡◌, ℕ, ◌<◌, ◌≤◌, Bool, true, false, refl, ◌∙◌, ap, arith}
use Rattle.std.specs.Prelude.{◌&&◌, nat_le, nat_lt}
use Rattle.std.proofs.lemmas.Bool.Decides.{nat_tests}

pub most_told : (a b : ℕ) → nat_le a b ≡ true → a ≤ b
most_told a b is = grind (arith, nat_tests)

pub most_true : (a b : ℕ) → a ≤ b → nat_le a b ≡ true
most_true a b le = grind (arith, nat_tests)

pub most_false : (a b : ℕ) → b < a → nat_le a b ≡ false
most_false a b lt = grind (arith, nat_tests)

pub less_told : (a b : ℕ) → nat_lt a b ≡ true → a < b
less_told a b is = grind (arith, nat_tests)

pub some_true : (t : ℕ) → 0 < t → nat_lt 0 t ≡ true
some_true t some = grind (arith, nat_tests)

pub some_false : (t : ℕ) → t ≡ 0 → nat_lt 0 t ≡ false
some_false t gone = grind (arith, nat_tests)

pub both_true : (a b : Bool) → a ≡ true → b ≡ true → (a && b) ≡ true
both_true a b p q = ap (λ x. x && b) p ∙ q

pub both_false : (a b : Bool) → b ≡ false → (a && b) ≡ false
both_false true b is = is
both_false false b is = refl

pub both_told : (a b : Bool) → (a && b) ≡ true → (a ≡ true) × (b ≡ true)
both_told true b is = (refl, is)
both_told false b is = absurd (let bad : false ≡ true = is in cc)
