-- Tests one after another.
use Rattle.std.proofs.Common.{◌≡◌, ℕ, zero, suc, ◌+◌, ◌-◌, ◌<◌, Bool, true, false, List, [], ◌∷◌, ◌++◌, refl, sym, ◌∙◌, ap, arith}
use Rattle.std.specs.Prelude.{Result, Ok, Err, if◌then◌else◌}
use Rattle.rom_model.specs.declared.unfit.Rule.{Rule}
use Rattle.rom_model.specs.declared.unfit.Break.{Break}
use Rattle.rom_model.specs.Tests.{Test, tested, checked, is_word, are_zero}
use Rattle.rom_model.proofs.Outcomes.{one_ok, one_err, not_both}

-- the first that does not hold is the first of all
pub first_breaks : {A : Type 0} (a : A) (xs ys : List Test) (e : Break) → checked xs ≡ Err e → tested (xs ++ ys) a ≡ Err e
first_breaks a [] ys e is = absurd (not_both tt e is)
first_breaks {A} a (x ∷ xs) ys e is = go x.holds (first_breaks a xs ys e) is
  where
    go : (b : Bool) → (checked xs ≡ Err e → tested (xs ++ ys) a ≡ Err e) → (if b then checked xs else Err x.broken) ≡ Err e → ◌≡◌ {A = Result A Break} (if b then tested (xs ++ ys) a else Err x.broken) (Err e)
    go true more rest = more rest
    go false more here = ap (λ (d : Break). Err d) (one_err {A = Unit {0}} x.broken e here)

-- where all of the first hold, the others decide
pub first_holds : {A : Type 0} (a : A) (xs ys : List Test) → checked xs ≡ Ok tt → tested (xs ++ ys) a ≡ tested ys a
first_holds a [] ys is = refl
first_holds {A} a (x ∷ xs) ys is = go x.holds (first_holds a xs ys) is
  where
    go : (b : Bool) → (checked xs ≡ Ok tt → tested (xs ++ ys) a ≡ tested ys a) → (if b then checked xs else Err x.broken) ≡ Ok tt → ◌≡◌ {A = Result A Break} (if b then tested (xs ++ ys) a else Err x.broken) (tested ys a)
    go true more rest = more rest
    go false more here = absurd (not_both tt x.broken (sym here))

-- tests that break find nothing, whatever was found before
pub breaking : {A : Type 0} (xs : List Test) (a : A) (e : Break) → checked xs ≡ Err e → tested xs a ≡ Err e
breaking [] a e is = absurd (not_both tt e is)
breaking {A} (x ∷ xs) a e is = go x.holds (breaking xs a e) is
  where
    go : (b : Bool) → (checked xs ≡ Err e → tested xs a ≡ Err e) → (if b then checked xs else Err x.broken) ≡ Err e → ◌≡◌ {A = Result A Break} (if b then tested xs a else Err x.broken) (Err e)
    go true more rest = more rest
    go false more here = ap (λ (d : Break). Err d) (one_err {A = Unit {0}} x.broken e here)

-- all tests hold, and what was found is what was found before
pub record Passed {A : Type 0} (tests : List Test) (a found : A) : Type 0 where
  pub all : checked tests ≡ Ok tt
  pub same : found ≡ a

pub passed : {A : Type 0} (tests : List Test) (a found : A) → tested tests a ≡ Ok found → Passed tests a found
passed [] a found is = record { all = refl; same = one_ok found a (sym is) }
passed {A} (t ∷ ts) a found is = let p = go t.holds (passed ts a found) is in record { all = p.0; same = p.1 }
  where
    go : (b : Bool) → (tested ts a ≡ Ok found → Passed ts a found) → ◌≡◌ {A = Result A Break} (if b then tested ts a else Err t.broken) (Ok found)
        → (◌≡◌ {A = Result (Unit {0}) Break} (if b then checked ts else Err t.broken) (Ok tt)) × (found ≡ a)
    go true more rest = let p = more rest in (p.all, p.same)
    go false more here = absurd (not_both found t.broken (sym here))

-- tests that hold find what was found before
pub passing : {A : Type 0} (tests : List Test) (a : A) → checked tests ≡ Ok tt → tested tests a ≡ Ok a
passing [] a is = refl
passing {A} (t ∷ ts) a is = go t.holds (passing ts a) is
  where
    go : (b : Bool) → (checked ts ≡ Ok tt → tested ts a ≡ Ok a) → ◌≡◌ {A = Result (Unit {0}) Break} (if b then checked ts else Err t.broken) (Ok tt) → ◌≡◌ {A = Result A Break} (if b then tested ts a else Err t.broken) (Ok a)
    go true more rest = more rest
    go false more here = absurd (not_both tt t.broken (sym here))

-- the rest of the zeros
pub zeros_go_on : (words : List ℕ) (at many : ℕ) (rule : Rule) → 0 < many → checked (is_word words at rule 0 ∷ []) ≡ Ok tt → checked (are_zero words at many rule) ≡ checked (are_zero words (at + 1) (many - 1) rule)
zeros_go_on words at zero rule some is = absurd (omega arith)
zeros_go_on words at (suc many) rule some is =
    let e : suc many - 1 ≡ many = omega arith in
    first_holds tt (is_word words at rule 0 ∷ []) (are_zero words (at + 1) many rule) is ∙ ap (λ m. checked (are_zero words (at + 1) m rule)) (sym e)

-- the first of the zeros
pub zeros_break : (words : List ℕ) (at many : ℕ) (rule : Rule) (e : Break) → 0 < many → checked (is_word words at rule 0 ∷ []) ≡ Err e → checked (are_zero words at many rule) ≡ Err e
zeros_break words at zero rule e some is = absurd (omega arith)
zeros_break words at (suc many) rule e some is = first_breaks tt (is_word words at rule 0 ∷ []) (are_zero words (at + 1) many rule) e is
