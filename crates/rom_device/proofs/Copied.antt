-- What holds of each place of a list once words were copied behind the first ones.
use Rattle.std.proofs.Common.{◌≡◌, ◌≢◌, inl, inr, ℕ, ◌+◌, ◌-◌, ◌<◌, ◌≤◌, List, length, slice_index, set, arith, refl, sym, subst, get_or-set_other, get_or-set_same}
use Rattle.std.proofs.lemmas.Bool.{cases_lt}
use Rattle.std.proofs.lemmas.List.{places}
use borrow.Rule.Slice.PartMut.{put_mid}

pub places-put_mid : (P : ℕ → ℕ → Type 0) (done count : ℕ) (words copied : List ℕ) → done ≤ length words → count ≤ length copied → ((k : ℕ) → k < done → P k (slice_index words k)) → ((k : ℕ) → k < count → P (done + k) (slice_index copied k)) → (k : ℕ) → k < done + count → P k (slice_index (put_mid done (length words - done) words copied) k)
places-put_mid P done count words copied within most before here k lt = elim (cases_lt k done) [
  | inl less ↦
      let same : slice_index (put_mid done (length words - done) words copied) k ≡ slice_index words k = grind (arith, places) in
      subst (P k) (sym same) (before k less)
  | inr not_less ↦
      let same : slice_index (put_mid done (length words - done) words copied) k ≡ slice_index copied (k - done) = grind (arith, places) in
      let there : done + (k - done) ≡ k = omega (arith, not_less) in
      subst (P k) (sym same) (subst (λ (n : ℕ). P n (slice_index copied (k - done))) there (here (k - done) (omega (arith, lt, not_less))))
]

-- and of one place more
pub places-set : (P : ℕ → ℕ → Type 0) (done : ℕ) (words : List ℕ) (word : ℕ) → done < length words → ((k : ℕ) → k < done → P k (slice_index words k)) → P done word → (k : ℕ) → k < done + 1 → P k (slice_index (set words done word) k)
places-set P done words word inside before here k lt = elim (cases_lt k done) [
  | inl less ↦
      let ne : k ≢ done = omega (arith, less) in
      let same : slice_index (set words done word) k ≡ slice_index words k = rw get_or-set_other refl in
      subst (P k) (sym same) (before k less)
  | inr not_less ↦
      let is : done ≡ k = omega (arith, lt, not_less) in
      let same : slice_index (set words done word) done ≡ word = rw get_or-set_same refl in
      subst (λ (n : ℕ). P n (slice_index (set words done word) n)) is (subst (P done) (sym same) here)
]
