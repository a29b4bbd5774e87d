-- What runs of calls leave, where it is known what could be left before.
use Rattle.std.proofs.Common.{◌⊎◌, inl, inr, ⊎_elim, ℕ, List, refl, sym, subst}
use Rattle.rom_device.specs.Device.{ShownDevice, Becomes, Runs}
use Rattle.rom_device.proofs.Going.{runs_by, runs_on, runs_none, becomes_joins}

module _ {D : Type 0} (shown : ShownDevice D) where
  -- one run after another
  pub becomes_then : (P : List ℕ → Type 0) (a b c : D) → Runs shown (Becomes P) a b → Runs shown (Becomes P) b c → Runs shown (Becomes P) a c
  becomes_then P a b c first second = runs_on shown (Becomes P) (becomes_joins shown P) a b c first second

  -- P or more
  pub becomes_by : (P Q : List ℕ → Type 0) (a b : D) → ((i : List ℕ) → P i → Q i) → Runs shown (Becomes P) a b → Runs shown (Becomes Q) a b
  becomes_by P Q a b is runs = runs_by shown (Becomes P) (Becomes Q) (λ x y. ⊎_elim (λ same. inl same) (λ p. inr (is y p))) a b runs

  pub becomes_none : (P : List ℕ → Type 0) (a : D) → Runs shown (Becomes P) a a
  becomes_none P a = runs_none shown (Becomes P) (λ x. inl refl) a

  -- each image now is one from before, or has P
  pub now_since : (P : List ℕ → Type 0) (a b : D) → Runs shown (Becomes P) a b → (i : List ℕ) → shown.leaves b i → shown.leaves a i ⊎ P i
  now_since P a b runs i left = let here = runs.now i left in ⊎_elim (λ same. inl (subst (λ (l : List ℕ). shown.leaves a l) (sym same) here.was)) (λ p. inr p) here.by
