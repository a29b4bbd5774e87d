-- The callers of a store in one thread, before and after a batch.
use Rattle.std.proofs.Common.{◌≡◌, ℕ, zero, suc, ◌+◌, ◌<◌, ◌≤◌, List, [], ◌∷◌, length, refl, ap, sym, ◌∙◌, subst, arith, Some}
use Rattle.std.specs.Prelude.{slice_get}
use Rattle.std.specs.List.{AllByRecursion}
use Rattle.atomic_table.specs.Seated.{TableId}
use Rattle.rom_model.specs.History.{LAST_COUNT}
use Rattle.rom_rule.specs.Views.{fresh_view}
use Rattle.rom_rule.specs.declared.views.Base.{Base}
use Rattle.rom_rule.specs.declared.views.View.{View}
use Rattle.rom_store.specs.Callers.{Caller, IsCallerOf, IsNewCaller, IsNumberedCaller}
use Rattle.rom_store.specs.Indexed.{Indexed}
use Rattle.rom_store.specs.Lone.{HasWorked, HaveWorked, MayPost}

-- What holds at each place holds of each.
all_from : {X : Type 0} (P : X → Type 0) (xs : List X) → ((i : ℕ) (x : X) → slice_get xs i ≡ Some x → P x) → AllByRecursion P xs
all_from P [] each = tt
all_from P (x ∷ xs) each = (each 0 x refl, all_from P xs (λ i y there. each (suc i) y there))

module _ {S : Type 0} (Contents : ℕ → List ℕ → S → ℕ → Type 0) (table : TableId) (base : Base) where
  -- who is new has posted nothing
  pub new_posted : (passes : List Caller) → Indexed (IsNewCaller Contents table base) passes → AllByRecursion (λ p. length p.view.calls ≤ 0) passes
  new_posted passes are = all_from (λ p. length p.view.calls ≤ 0) passes (λ i p there. let calls = ap (λ (v : View). length v.calls) (are.at i p there).bare in omega (arith, calls))

  pub may_post : (turns : ℕ) (passes : List Caller) → Indexed (IsNumberedCaller Contents table base) passes → AllByRecursion (λ p. length p.view.calls ≤ turns) passes → turns < LAST_COUNT → MayPost Contents table base LAST_COUNT passes
  may_post turns passes are few low = both passes (all_from (IsCallerOf Contents table base) passes (λ i p there. (are.at i p there).of)) few
    where
      both : (ps : List Caller) → AllByRecursion (IsCallerOf Contents table base) ps → AllByRecursion (λ p. length p.view.calls ≤ turns) ps → MayPost Contents table base LAST_COUNT ps
      both [] of few = tt
      both (p ∷ ps) of few = ((of.0, let a = few.0 in omega (arith, a, low)), both ps of.1 few.1)

  -- callers that did nothing
  pub have_stayed : (most : ℕ) (ps : List Caller) → MayPost Contents table base most ps → HaveWorked Contents table base ps ps
  have_stayed most [] are = tt
  have_stayed most (p ∷ ps) are = (record { of = are.0.0; number = refl; few = omega arith }, have_stayed most ps are.1)

  pub worked_many : (ps qs : List Caller) → HaveWorked Contents table base ps qs → length qs ≡ length ps
  worked_many [] [] did = refl
  worked_many [] (q ∷ qs) did = absurd did
  worked_many (p ∷ ps) [] did = absurd did
  worked_many (p ∷ ps) (q ∷ qs) did = ap suc (worked_many ps qs did.1)

  pub worked_few : (turns : ℕ) (ps qs : List Caller) → HaveWorked Contents table base ps qs → AllByRecursion (λ p. length p.view.calls ≤ turns) ps → AllByRecursion (λ p. length p.view.calls ≤ turns + 1) qs
  worked_few turns [] [] did few = tt
  worked_few turns [] (q ∷ qs) did few = absurd did
  worked_few turns (p ∷ ps) [] did few = absurd did
  worked_few turns (p ∷ ps) (q ∷ qs) did few = (let a = few.0 in let b = did.0.few in omega (arith, a, b), worked_few turns ps qs did.1 few.1)

  worked_at : (ps qs : List Caller) (k : ℕ) → HaveWorked Contents table base ps qs → ((i : ℕ) (p : Caller) → slice_get ps i ≡ Some p → IsNumberedCaller Contents table base (k + i) p) → (i : ℕ) (q : Caller) → slice_get qs i ≡ Some q → IsNumberedCaller Contents table base (k + i) q
  worked_at [] [] k did are i q there = are i q there
  worked_at [] (r ∷ qs) k did are i q there = absurd did
  worked_at (p ∷ ps) [] k did are i q there = absurd did
  worked_at (p ∷ ps) (r ∷ qs) k did are zero q there =
      let same : r ≡ q = cc in subst (IsNumberedCaller Contents table base (k + 0)) same (record { of = did.0.of; number = did.0.number ∙ (are 0 p refl).number })
  worked_at (p ∷ ps) (r ∷ qs) k did are (suc i) q there =
      let shift : (j : ℕ) → k + 1 + j ≡ k + suc j = λ j. omega arith in
      subst (λ n. IsNumberedCaller Contents table base n q) (shift i) (worked_at ps qs (k + 1) did.1 (λ j x at. subst (λ n. IsNumberedCaller Contents table base n x) (sym (shift j)) (are (suc j) x at)) i q there)

  pub worked_numbered : (ps qs : List Caller) → HaveWorked Contents table base ps qs → Indexed (IsNumberedCaller Contents table base) ps → Indexed (IsNumberedCaller Contents table base) qs
  worked_numbered ps qs did are =
      let none : (j : ℕ) → 0 + j ≡ j = λ j. omega arith in
      record { at = λ i q there. subst (λ n. IsNumberedCaller Contents table base n q) (none i) (worked_at ps qs 0 did (λ j p at. subst (λ n. IsNumberedCaller Contents table base n p) (sym (none j)) (are.at j p at)) i q there) }
