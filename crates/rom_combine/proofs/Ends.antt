-- A pass ends in one way.
use Rattle.std.proofs.Common.{◌≡◌, ◌≢◌, ℕ, ◌<◌, ◌==◌, true, false, sym, ap, ◌∙◌, arith}
use Rattle.std.proofs.lemmas.Bool.{eqb-true, eqb-false}
use Rattle.rom_combine.specs.declared.passed.Outcome.{Outcome}
use Rattle.rom_combine.specs.declared.passed.Outcome.TheVariants as outcome
use Rattle.rom_combine.specs.declared.passed.Passed.{Passed}

pub failed_not_nothing : outcome.Failed ≡ outcome.Nothing → ⊥
failed_not_nothing e = cc

pub doubt_not_nothing : outcome.Doubt ≡ outcome.Nothing → ⊥
doubt_not_nothing e = cc

pub published_not_nothing : outcome.Published ≡ outcome.Nothing → ⊥
published_not_nothing e = cc

pub published_not_failed : outcome.Published ≡ outcome.Failed → ⊥
published_not_failed e = cc

pub published_not_doubt : outcome.Published ≡ outcome.Doubt → ⊥
published_not_doubt e = cc

pub failed_not_doubt : outcome.Failed ≡ outcome.Doubt → ⊥
failed_not_doubt e = cc

-- as the pass ended, and as it is said to have ended
pub ended : (r : Passed) (found done : ℕ) (o o' : Outcome) → r ≡ record { found = found; done = done; outcome = o } → r.outcome ≡ o' → o ≡ o'
ended r found done o o' is e = sym (ap (λ (z : Passed). z.outcome) is) ∙ e

-- a pass that did no call
pub none_done : (r : Passed) (found : ℕ) (o : Outcome) → r ≡ record { found = found; done = 0; outcome = o } → 0 < r.done → ⊥
none_done r found o is some_done = let none : r.done ≡ 0 = ap (λ (z : Passed). z.done) is in omega arith

-- what a list's length is where it is found to be empty, and where not
pub none_of : (n : ℕ) → true ≡ (n == 0) → n ≡ 0
none_of n e = eqb-true n 0 (sym e)

pub some_of : (n : ℕ) → false ≡ (n == 0) → 0 < n
some_of n e = let other : n ≢ 0 = eqb-false n 0 (sym e) in omega arith
