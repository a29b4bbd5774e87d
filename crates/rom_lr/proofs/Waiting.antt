-- What the waits of the writer leave.
use Rattle.std.proofs.Common.{◌≡◌, ℕ, zero, suc, ◌+◌, ◌-◌, ◌/◌, ◌%◌, ◌<◌, ◌≤◌, ◌||◌, List, [], ◌∷◌, ◌++◌, refl, ap, ◌∙◌, subst, arith, Bool, true, false, eqb, eq-eqb, Some}
use mathlib.Core.Logic.{dite}
use native.Mathlib.Decide.{ℕ_discrete}
use Rattle.rom_rule.specs.Kinds.{observed}
use Rattle.rom_rule.specs.Places.{indicator_of}
use Rattle.rom_rule.specs.Readers.{Settled}
use Rattle.rom_rule.specs.Views.{below, has}
use Rattle.rom_rule.specs.declared.views.Base.{Base}
use Rattle.rom_rule.specs.declared.views.Plan.{Plan}
use Rattle.rom_rule.specs.declared.views.View.{View}
use Rattle.rom_lr.specs.Writing.{checks, plan_after_both_waits, plan_after_wait}

has_later : (k : ℕ) (xs ys : List (ℕ × ℕ)) → has k ys ≡ true → has k (xs ++ ys) ≡ true
has_later k [] ys h = h
has_later k (x ∷ xs) ys h = by_case (eqb k x.0) (has_later k xs ys h)
  where
    by_case : (t : Bool) → has k (xs ++ ys) ≡ true → t || has k (xs ++ ys) ≡ true
    by_case true rest = refl
    by_case false rest = rest

-- each caller's indicator was loaded
has_checked : (version named n c : ℕ) (ys : List (ℕ × ℕ)) → 0 < c → c ≤ n → has (indicator_of c version) (checks version named n ++ ys) ≡ true
has_checked version named zero c ys pos le = absurd (omega arith)
has_checked version named (suc n) c ys pos le = dite (ℕ_discrete c (suc n))
    (λ e. ap (λ (t : Bool). t || has (indicator_of c version) (checks version named n ++ ys)) (eq-eqb (indicator_of c version) (indicator_of (suc n) version) (ap (λ (m : ℕ). indicator_of m version) e)))
    (λ ne. has_later (indicator_of c version) ((indicator_of (suc n) version, named) ∷ []) (checks version named n ++ ys) (has_checked version named n c ys pos (omega arith)))

-- both waits are over
pub both_over : (b : Base) (p : Plan) → p.version < 2 → Settled b (plan_after_both_waits b.callers p)
both_over b p low k lt = let c : ℕ = k / 2 + 1 in let n : ℕ = b.callers in let v : ℕ = p.version in let inside : c ≤ n = omega arith in let pos : 0 < c = omega arith in dite (ℕ_discrete (k % 2) v)
    (λ e. let is : indicator_of c v ≡ k = omega arith in subst (λ (i : ℕ). has i (checks v (1 - v) n ++ (checks (1 - v) v n ++ p.clear)) ≡ true) is (has_checked v (1 - v) n c (checks (1 - v) v n ++ p.clear) pos inside))
    (λ ne. let is : indicator_of c (1 - v) ≡ k = omega arith in subst (λ (i : ℕ). has i (checks v (1 - v) n ++ (checks (1 - v) v n ++ p.clear)) ≡ true) is
    (has_later (indicator_of c (1 - v)) (checks v (1 - v) n) (checks (1 - v) v n ++ p.clear) (has_checked (1 - v) v n c p.clear pos inside)))

-- at the opening each indicator counts as loaded
pub has_below : (n k : ℕ) → k < n → has k (below n) ≡ true
has_below zero k lt = absurd (omega arith)
has_below (suc n) k lt = dite (ℕ_discrete k n) (λ e. ap (λ (t : Bool). t || has k (below n)) (eq-eqb k n e)) (λ ne. has_later k ((n, 0) ∷ []) (below n) (has_below n k (omega (arith, lt))))

-- one caller's more
pub one_more : (version n : ℕ) (p : Plan) → observed (indicator_of (n + 1) version) 0 (plan_after_wait version n p) ≡ plan_after_wait version (n + 1) p
one_more version n p = let e : suc n ≡ n + 1 = omega arith in subst (λ (m : ℕ). observed (indicator_of m version) 0 (plan_after_wait version n p) ≡ plan_after_wait version m p) e refl

-- some steps more, after some steps
pub go_on : (u v w : View) (p q : Plan) → v ≡ record u { plan = Some p; steps = v.steps } → w ≡ record v { plan = Some q; steps = w.steps } → w ≡ record u { plan = Some q; steps = w.steps }
go_on u v w p q e f = f ∙ ap (λ (z : View). let y : View = record z { plan = Some q; steps = w.steps } in y) e
