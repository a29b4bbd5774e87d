-- How runs of device calls are joined, for functions that make several.
use Rattle.std.proofs.Common.{inl, inr, ⊎_elim, ℕ, ◌≤◌, List, subst, sym, ◌∙◌, arith}
use Rattle.rom_device.specs.Device.{ShownDevice, After, Runs, Leaves, Stays, Becomes, Does}

module _ {D : Type 0} (shown : ShownDevice D) where
  -- a step that may be taken twice in one
  pub runs_on : (step : List ℕ → List ℕ → Type 0) → ((x y z : List ℕ) → step x y → step y z → step x z) → (a b c : D)
      → Runs shown step a b → Runs shown step b c → Runs shown step a c
  runs_on step joins a b c first second = record {
    later = omega (arith, first.later, second.later);
    now = λ i left. after i (second.now i left);
    nothing_else = λ t i left. ⊎_elim (first.nothing_else t i) (λ here. inr (after i here)) (second.nothing_else t i left);
    keeps = λ t i le left. second.keeps t i (omega (arith, le, first.later)) (first.keeps t i le left);
  }
    where
      after : (i : List ℕ) → After step (shown.leaves b) i → After step (shown.leaves a) i
      after i here = let before = first.now here.from here.was in record { from = before.from; was = before.was; by = joins before.from here.from i before.by here.by }

  -- a weaker step
  pub runs_by : (step wider : List ℕ → List ℕ → Type 0) → ((x y : List ℕ) → step x y → wider x y) → (a b : D)
      → Runs shown step a b → Runs shown wider a b
  runs_by step wider is a b runs = record {
    later = runs.later;
    now = λ i left. after i (runs.now i left);
    nothing_else = λ t i left. ⊎_elim (λ past. inl past) (λ here. inr (after i here)) (runs.nothing_else t i left);
    keeps = runs.keeps;
  }
    where
      after : (i : List ℕ) → After step (shown.leaves a) i → After wider (shown.leaves a) i
      after i here = record { from = here.from; was = here.was; by = is here.from i here.by }

  pub runs_none : (step : List ℕ → List ℕ → Type 0) → ((x : List ℕ) → step x x) → (a : D) → Runs shown step a a
  runs_none step same a = record {
    later = omega arith;
    now = λ i left. record { from = i; was = left; by = same i };
    nothing_else = λ t i left. inl left;
    keeps = λ t i le left. left;
  }

  -- what could be left since is as before, or has P
  pub leaves_none : (P : List ℕ → Type 0) (a : D) → Leaves shown P a a
  leaves_none P a = record { later = omega arith; nothing_else = λ t i le left. inl left; keeps = λ t i le left. left }

  pub leaves_on : (step : List ℕ → List ℕ → Type 0) (P : List ℕ → Type 0) (a b c : D) → Leaves shown P a b → Runs shown step b c
      → ((x y : List ℕ) → shown.leaves b x → step x y → P y) → Leaves shown P a c
  leaves_on step P a b c so_far runs has = record {
    later = omega (arith, so_far.later, runs.later);
    nothing_else = λ t i le left. ⊎_elim (so_far.nothing_else t i le) (λ here. inr (has here.from i here.was here.by)) (runs.nothing_else t i left);
    keeps = λ t i le left. runs.keeps t i (omega (arith, le, so_far.later)) (so_far.keeps t i le left);
  }

  -- calls that write nothing
  pub leaves_still : (P : List ℕ → Type 0) (a b c : D) → ((t : ℕ) (i : List ℕ) → t ≤ shown.clock b → shown.leaves b i → shown.left_since b t i) → Leaves shown P a b
      → Runs shown Stays b c → Leaves shown P a c
  leaves_still P a b c counts so_far runs = record {
    later = omega (arith, so_far.later, runs.later);
    nothing_else = λ t i le left. ⊎_elim (so_far.nothing_else t i le)
        (λ here. so_far.nothing_else t i le (counts t i (omega (arith, le, so_far.later)) (subst (λ (l : List ℕ). shown.leaves b l) (sym here.by) here.was)))
        (runs.nothing_else t i left);
    keeps = λ t i le left. runs.keeps t i (omega (arith, le, so_far.later)) (so_far.keeps t i le left);
  }

  pub leaves_by : (P Q : List ℕ → Type 0) (a b : D) → ((i : List ℕ) → P i → Q i) → Leaves shown P a b → Leaves shown Q a b
  leaves_by P Q a b is so_far = record {
    later = so_far.later;
    nothing_else = λ t i le left. ⊎_elim (λ past. inl past) (λ here. inr (is i here)) (so_far.nothing_else t i le left);
    keeps = so_far.keeps;
  }

  pub leaves_then : (P Q : List ℕ → Type 0) (a b c : D) → ((i : List ℕ) → Q i → P i) → Leaves shown P a b → Leaves shown Q b c → Leaves shown P a c
  leaves_then P Q a b c is first second = record {
    later = omega (arith, first.later, second.later);
    nothing_else = λ t i le left. ⊎_elim (first.nothing_else t i le) (λ here. inr (is i here)) (second.nothing_else t i (omega (arith, le, first.later)) left);
    keeps = λ t i le left. second.keeps t i (omega (arith, le, first.later)) (first.keeps t i le left);
  }

  -- an image that becomes one with P twice does so once
  pub becomes_joins : (P : List ℕ → Type 0) (x y z : List ℕ) → Becomes P x y → Becomes P y z → Becomes P x z
  becomes_joins P x y z first (inr has) = inr has
  becomes_joins P x y z (inl stayed) (inl stays) = inl (stays ∙ stayed)
  becomes_joins P x y z (inr had) (inl stays) = inr (subst (λ (l : List ℕ). P l) (sym stays) had)

  -- P or more
  pub becomes_by : (P Q : List ℕ → Type 0) → ((i : List ℕ) → P i → Q i) → (a b : D) → Runs shown (Becomes P) a b → Runs shown (Becomes Q) a b
  becomes_by P Q is = runs_by (Becomes P) (Becomes Q) (λ x y by. ⊎_elim (λ same. inl same) (λ has. inr (is y has)) by)

  -- each image since the start could be left at the start, or has P
  pub leaves_of : (P : List ℕ → Type 0) (a b : D) → ((t : ℕ) (i : List ℕ) → t ≤ shown.clock a → shown.leaves a i → shown.left_since a t i)
      → Runs shown (Becomes P) a b → Leaves shown P a b
  leaves_of P a b counts runs = record {
    later = runs.later;
    nothing_else = λ t i le left. ⊎_elim (λ past. inl past)
        (λ here. ⊎_elim (λ same. inl (counts t i le (subst (λ (l : List ℕ). shown.leaves a l) (sym same) here.was))) (λ has. inr has) here.by)
        (runs.nothing_else t i left);
    keeps = runs.keeps;
  }

  -- each image becomes one with P, or stays
  pub leaves_becoming : (step : List ℕ → List ℕ → Type 0) (P : List ℕ → Type 0) (a b : D) → ((t : ℕ) (i : List ℕ) → t ≤ shown.clock a → shown.leaves a i → shown.left_since a t i)
      → Runs shown step a b → ((x y : List ℕ) → shown.leaves a x → step x y → Becomes P x y) → Leaves shown P a b
  leaves_becoming step P a b counts runs becomes = record {
    later = runs.later;
    nothing_else = λ t i le left. ⊎_elim (λ past. inl past)
        (λ here. ⊎_elim (λ same. inl (counts t i le (subst (λ (l : List ℕ). shown.leaves a l) (sym same) here.was))) (λ has. inr has) (becomes here.from i here.was here.by))
        (runs.nothing_else t i left);
    keeps = runs.keeps;
  }

  -- calls that write nothing leave no image that was not left
  pub was_left : (a b : D) → Runs shown Stays a b → (i : List ℕ) → shown.leaves b i → shown.leaves a i
  was_left a b runs i left = let here = runs.now i left in subst (λ (l : List ℕ). shown.leaves a l) (sym here.by) here.was

  -- a step before calls that write nothing
  pub runs_then : (step : List ℕ → List ℕ → Type 0) (a b c : D) → Runs shown step a b → Runs shown Stays b c → Runs shown step a c
  runs_then step a b c first second = record {
    later = omega (arith, first.later, second.later);
    now = λ i left. first.now i (was_left b c second i left);
    nothing_else = λ t i left. ⊎_elim (first.nothing_else t i) (λ here. inr (first.now i (subst (λ (l : List ℕ). shown.leaves b l) (sym here.by) here.was))) (second.nothing_else t i left);
    keeps = λ t i le left. second.keeps t i (omega (arith, le, first.later)) (first.keeps t i le left);
  }

  -- calls that take one step, one after another; and a weaker step
  pub does_on : (step : List ℕ → List ℕ → Type 0) → ((x y z : List ℕ) → step x y → step y z → step x z) → (a b c : D) → Does shown step a b → Does shown step b c → Does shown step a c
  does_on step joins a b c first second = record {
    size = second.size ∙ first.size;
    words = λ told. joins (shown.words a) (shown.words b) (shown.words c) (first.words told) (second.words told);
    images = λ told. runs_on step joins a b c (first.images told) (second.images told);
    doubts = λ told. runs_on step joins a b c (first.doubts told) (second.doubts told);
    fewer = λ at is. first.fewer at (second.fewer at is);
  }

  pub does_then : (step : List ℕ → List ℕ → Type 0) (a b c : D) → Does shown step a b → Does shown Stays b c → Does shown step a c
  does_then step a b c first second = record {
    size = second.size ∙ first.size;
    words = λ told. subst (λ (l : List ℕ). step (shown.words a) l) (sym (second.words told)) (first.words told);
    images = λ told. runs_then step a b c (first.images told) (second.images told);
    doubts = λ told. runs_then step a b c (first.doubts told) (second.doubts told);
    fewer = λ at is. first.fewer at (second.fewer at is);
  }

  pub does_by : (step wider : List ℕ → List ℕ → Type 0) → ((x y : List ℕ) → step x y → wider x y) → (a b : D) → Does shown step a b → Does shown wider a b
  does_by step wider is a b does = record {
    size = does.size;
    words = λ told. is (shown.words a) (shown.words b) (does.words told);
    images = λ told. runs_by step wider is a b (does.images told);
    doubts = λ told. runs_by step wider is a b (does.doubts told);
    fewer = does.fewer;
  }
