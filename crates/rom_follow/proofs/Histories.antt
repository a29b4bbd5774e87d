-- Parts of a legal history.
use Rattle.std.proofs.Common.{◌≡◌, ℕ, zero, suc, ◌+◌, ◌≤◌, List, [], ◌∷◌, length, take, drop, refl, ap, ◌∙◌, subst, arith}
use Rattle.std.specs.Prelude.{Option, Some, None, slice_get}
use Rattle.rom_model.specs.History.{IsLegal, IsReplied, after, left}
use Rattle.rom_model.specs.declared.entry.Entry.{Entry}

-- the list from an element on
pub from_element : {X : Type 0} (xs : List X) (i : ℕ) (x : X) → slice_get xs i ≡ Some x → drop i xs ≡ x ∷ drop (i + 1) xs
from_element [] i x is = absurd (none i is)
  where
    none : (i : ℕ) → slice_get [] i ≡ Some x → ⊥
    none zero is = let never : None ≡ Some x = is in cc
    none (suc i) is = let never : None ≡ Some x = is in cc
from_element (y ∷ xs) zero x is = let same : Some y ≡ Some x = is in let one : y ≡ x = cc in λ i. one i ∷ xs
from_element (y ∷ xs) (suc i) x is = from_element xs i x is ∙ ap (λ (n : ℕ). x ∷ drop n (y ∷ xs)) (let next : suc (i + 1) ≡ suc i + 1 = omega arith in next)

module _ {S : Type 0} (step : ℕ → S → ℕ → List ℕ → Option (S × List ℕ)) (order : ℕ) where
  pub legal_take : (s : S) (k n : ℕ) (es : List Entry) → IsLegal step order s k es → IsLegal step order s k (take n es)
  legal_take s k zero es legal = tt
  legal_take s k (suc n) [] legal = tt
  legal_take s k (suc n) (e ∷ es) legal = (legal.0, legal_take (left s (step order s k e.args)) (k + 1) n es legal.1)

  pub legal_drop : (s : S) (k n : ℕ) (es : List Entry) → n ≤ length es → IsLegal step order s k es → IsLegal step order (after step order s k (take n es)) (k + n) (drop n es)
  legal_drop s k zero es within legal = subst (λ (m : ℕ). IsLegal step order s m es) (let same : k ≡ k + 0 = omega arith in same) legal
  legal_drop s k (suc n) [] within legal = absurd (omega (arith, within))
  legal_drop s k (suc n) (e ∷ es) within legal =
      subst (λ (m : ℕ). IsLegal step order (after step order (left s (step order s k e.args)) (k + 1) (take n es)) m (drop n es)) (let same : k + 1 + n ≡ k + suc n = omega arith in same)
      (legal_drop (left s (step order s k e.args)) (k + 1) n es (omega (arith, within)) legal.1)

  -- the state after so many entries, and then so many more
  pub after_more : (s : S) (k n m : ℕ) (es : List Entry) → n ≤ length es → after step order s k (take (n + m) es) ≡ after step order (after step order s k (take n es)) (k + n) (take m (drop n es))
  after_more s k zero m es within =
      ap (λ (z : ℕ). after step order s k (take z es)) (let same : 0 + m ≡ m = omega arith in same)
      ∙ ap (λ (z : ℕ). after step order s z (take m es)) (let same : k ≡ k + 0 = omega arith in same)
  after_more s k (suc n) m [] within = absurd (omega (arith, within))
  after_more s k (suc n) m (e ∷ es) within =
      ap (λ (z : ℕ). after step order s k (take z (e ∷ es))) (let next : suc n + m ≡ suc (n + m) = omega arith in next)
      ∙ after_more (left s (step order s k e.args)) (k + 1) n m es (omega (arith, within))
      ∙ ap (λ (z : ℕ). after step order (after step order (left s (step order s k e.args)) (k + 1) (take n es)) z (take m (drop n es))) (let same : k + 1 + n ≡ k + suc n = omega arith in same)

  -- an entry of a legal history is legal at its point
  pub legal_at : (s : S) (k at : ℕ) (es : List Entry) (e : Entry) → IsLegal step order s k es → slice_get es at ≡ Some e → (t : S) × (j : ℕ) × IsReplied step order t j e
  legal_at s k at [] e legal stands = absurd (let here = from_element [] at e stands in omega (arith, ap length here, none_left at))
    where
      none_left : (n : ℕ) → length (drop {A = Entry} n []) ≡ 0
      none_left zero = refl
      none_left (suc n) = refl
  legal_at s k zero (x ∷ es) e legal stands = let same : Some x ≡ Some e = stands in let one : x ≡ e = cc in (s, k, subst (IsReplied step order s k) one legal.0)
  legal_at s k (suc at) (x ∷ es) e legal stands = legal_at (left s (step order s k x.args)) (k + 1) at es e legal.1 stands
