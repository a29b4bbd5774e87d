-- What runs of calls leave, where it is known what could be left before.
use Rattle.std.proofs.Common.{◌⊎◌, inl, inr, ⊎_elim, ℕ, List, Result, Ok, Err, OnOk, refl, sym, subst}
use Rattle.rom_device.specs.Device.{ShownDevice, After, Becomes, Runs}
use Rattle.rom_device.proofs.Going.{runs_on, runs_none, becomes_joins}

pub both_ok : {T E P Q R : Type 0} (result : Result T E) → (P → Q → R) → OnOk result P → OnOk result Q → OnOk result R
both_ok (Ok value) f p q = f p q
both_ok (Err error) f p q = tt

module _ {D : Type 0} (shown : ShownDevice D) where
  -- one run after another
  pub becomes_then : (P : List ℕ → Type 0) (a b c : D) → Runs shown (Becomes P) a b → Runs shown (Becomes P) b c → Runs shown (Becomes P) a c
  becomes_then P = runs_on shown (Becomes P) (becomes_joins shown P)

  pub becomes_none : (P : List ℕ → Type 0) (a : D) → Runs shown (Becomes P) a a
  becomes_none P = runs_none shown (Becomes P) (λ x. inl refl)

  -- each image now is one from before, or has P
  pub now_since : (P : List ℕ → Type 0) (a b : D) → Runs shown (Becomes P) a b → (i : List ℕ) → shown.leaves b i → shown.leaves a i ⊎ P i
  now_since P a b runs i left = let here = runs.now i left in ⊎_elim (λ same. inl (subst (λ (l : List ℕ). shown.leaves a l) (sym same) here.was)) (λ p. inr p) here.by

module _ {D : Type 0} (shown : ShownDevice D) (step : List ℕ → List ℕ → Type 0) (P : List ℕ → Type 0) (a b : D) where
  -- each image is one from before, or has P
  pub since_but : Runs shown step a b → ((x y : List ℕ) → shown.leaves a x → step x y → shown.leaves a y ⊎ P y) → Runs shown (Becomes P) a b
  since_but runs has = record {
    later = runs.later;
    now = λ i left. after i (runs.now i left);
    nothing_else = λ t i left. ⊎_elim (λ past. inl past) (λ here. inr (after i here)) (runs.nothing_else t i left);
    keeps = runs.keeps;
  }
    where
      becomes : (x i : List ℕ) → shown.leaves a x → shown.leaves a i ⊎ P i → After (Becomes P) (shown.leaves a) i
      becomes x i was (inl still) = record { from = i; was = still; by = inl refl }
      becomes x i was (inr p) = record { from = x; was = was; by = inr p }

      after : (i : List ℕ) → After step (shown.leaves a) i → After (Becomes P) (shown.leaves a) i
      after i here = becomes here.from i here.was (has here.from i here.was here.by)

  pub since_by : (Q : List ℕ → Type 0) → Runs shown step a b → ((i : List ℕ) → shown.leaves a i → Q i) → ((x y : List ℕ) → Q x → step x y → P y) → Runs shown (Becomes P) a b
  since_by Q runs all has = since_but runs (λ x y was by. inr (has x y (all x was) by))

  pub now_by : (Q : List ℕ → Type 0) → Runs shown step a b → ((i : List ℕ) → shown.leaves a i → Q i) → ((x y : List ℕ) → Q x → step x y → P y) → (i : List ℕ) → shown.leaves b i → P i
  now_by Q runs all has i left = let here = runs.now i left in has here.from i (all here.from here.was) here.by
