-- Calls that only read, before other calls.
use Rattle.std.proofs.Common.{inl, inr, ⊎_elim, ℕ, List, refl, sym, ◌∙◌, subst, arith}
use Rattle.rom_device.specs.Device.{ShownDevice, After, Stays, Runs, Does, OnlyReads}

module _ {D : Type 0} (shown : ShownDevice D) where
  was_left : (a b : D) → Runs shown Stays a b → (i : List ℕ) → shown.leaves b i → shown.leaves a i
  was_left a b runs i left = let here = runs.now i left in subst (λ (l : List ℕ). shown.leaves a l) (sym here.by) here.was

  step_before : (step : List ℕ → List ℕ → Type 0) (a b : D) → Runs shown Stays a b → (i : List ℕ) → After step (shown.leaves b) i → After step (shown.leaves a) i
  step_before step a b runs i here = record { from = here.from; was = was_left a b runs here.from here.was; by = here.by }

  runs_after : (step : List ℕ → List ℕ → Type 0) → ((x : List ℕ) → step x x) → (a b c : D) → Runs shown Stays a b → Runs shown step b c → Runs shown step a c
  runs_after step same a b c first second = record {
    later = omega (arith, first.later, second.later);
    now = λ i left. step_before step a b first i (second.now i left);
    nothing_else = λ t i since. ⊎_elim (λ past. ⊎_elim (λ before. inl before) (λ here. inr (record { from = i; was = subst (λ (l : List ℕ). shown.leaves a l) (sym here.by) here.was; by = same i })) (first.nothing_else t i past))
        (λ here. inr (step_before step a b first i here)) (second.nothing_else t i since);
    keeps = λ t i le since. second.keeps t i (omega (arith, le, first.later)) (first.keeps t i le since);
  }

  -- a step after calls that only read; one that may change nothing
  pub does_after : (step : List ℕ → List ℕ → Type 0) → ((x : List ℕ) → step x x) → (a b c : D) → OnlyReads shown a b → Does shown step b c → Does shown step a c
  does_after step same a b c first second = record {
    size = second.size ∙ first.size;
    words = λ told. subst (λ (l : List ℕ). step l (shown.words c)) (first.words told) (second.words told);
    images = λ told. runs_after step same a b c (first.images told) (second.images told);
    doubts = λ told. runs_after step same a b c (first.doubts told) (second.doubts told);
    fewer = λ at is. first.fewer at (second.fewer at is);
  }

  runs_do : (step : List ℕ → List ℕ → Type 0) → ((x : List ℕ) → step x x) → (a b : D) → Runs shown Stays a b → Runs shown step a b
  runs_do step same a b runs = record {
    later = runs.later;
    now = λ i left. record { from = i; was = was_left a b runs i left; by = same i };
    nothing_else = λ t i since. ⊎_elim (λ past. inl past) (λ here. inr (record { from = i; was = subst (λ (l : List ℕ). shown.leaves a l) (sym here.by) here.was; by = same i })) (runs.nothing_else t i since);
    keeps = runs.keeps;
  }

  -- calls that only read do any such step
  pub reads_do : (step : List ℕ → List ℕ → Type 0) → ((x : List ℕ) → step x x) → (a b : D) → OnlyReads shown a b → Does shown step a b
  reads_do step same a b first = record {
    size = first.size;
    words = λ told. subst (λ (l : List ℕ). step (shown.words a) l) (sym (first.words told)) (same (shown.words a));
    images = λ told. runs_do step same a b (first.images told);
    doubts = λ told. runs_do step same a b (first.doubts told);
    fewer = first.fewer;
  }

  pub reads_then : (a b c : D) → OnlyReads shown a b → OnlyReads shown b c → OnlyReads shown a c
  reads_then a b c first second = record {
    size = second.size ∙ first.size;
    words = λ told. second.words told ∙ first.words told;
    images = λ told. runs_after Stays (λ x. refl) a b c (first.images told) (second.images told);
    doubts = λ told. runs_after Stays (λ x. refl) a b c (first.doubts told) (second.doubts told);
    fewer = λ at is. first.fewer at (second.fewer at is);
    still = λ told i left. second.still told i (first.still told i left);
    writes = second.writes ∙ first.writes;
    syncs = second.syncs ∙ first.syncs;
  }

  runs_still : (a : D) → Runs shown Stays a a
  runs_still a = record {
    later = omega arith;
    now = λ i left. record { from = i; was = left; by = refl };
    nothing_else = λ t i since. inl since;
    keeps = λ t i le since. since;
  }

  pub reads_none : (a : D) → OnlyReads shown a a
  reads_none a = record {
    size = refl;
    words = λ told. refl;
    images = λ told. runs_still a;
    doubts = λ told. runs_still a;
    fewer = λ at is. is;
    still = λ told i left. left;
    writes = refl;
    syncs = refl;
  }
