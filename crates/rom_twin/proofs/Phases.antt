-- How writes lead from image to image.
use Rattle.std.proofs.Common.{◌≡◌, ◌⊎◌, inl, inr, ℕ, ◌+◌, ◌≤◌, List, [], length, set, slice_index, sym, ◌∙◌, subst, arith}
use Rattle.rom_model.specs.Blocks.{region_len}
use Rattle.rom_model.specs.Space.{ChangesOnly}
use Rattle.rom_device.specs.Device.{ShownDevice, WritesWord}
use Rattle.rom_ranges.specs.declared.range.Range.{Range}
use Rattle.rom_header.specs.Headers.{state_word}
use Rattle.rom_header.specs.Layout.{part, main_of, back_at, MAIN, STATE}
use Rattle.rom_header.specs.declared.header.State.{State}
use Rattle.rom_header.specs.declared.header.State.TheVariants.{Idle, Mutating, Copying}
use Rattle.rom_header.proofs.Parts.{state_set, heap_within, part_before, part_behind, part_is, get_or-part}
use Rattle.rom_twin.specs.Images.{ImageOf, Twins, IsHeapInState, HasBack, HasMain, KeepsBack, Committing}
use Rattle.rom_ranges.specs.Changes.{SameBut}
use Rattle.rom_twin.specs.Ranges.{IsBut}
use Rattle.rom_twin.specs.Seen.{Seen, InPhase, committed, committed_in}
use Rattle.rom_twin.specs.declared.phase.Phase.{Phase}
use Rattle.rom_twin.specs.declared.phase.Phase.TheVariants.{Clean, Begun, Persisted, Committed, Copied, Undo, Doubt, Redo}

known_state : (s : State) → state_word s ≤ 2
known_state Idle = omega arith
known_state Mutating = omega arith
known_state Copying = omega arith

module _ (n : ℕ) where
  -- the state
  pub stands_set : (state s : State) (main back x : List ℕ) → IsHeapInState n state main back x → IsHeapInState n s main back (set x STATE (state_word s))
  stands_set state s main back x is = let y = state_set n (state_word s) x (known_state s) is.heap in record { heap = y.heap; state_is = y.state_is; main_is = y.main_is ∙ is.main_is; back_is = y.back_is ∙ is.back_is }

  pub twins_set : (s : State) (c x : List ℕ) → Twins n c x → IsHeapInState n s c c (set x STATE (state_word s))
  twins_set s c x is = let y = state_set n (state_word s) x (known_state s) is.heap in record { heap = y.heap; state_is = y.state_is; main_is = y.main_is ∙ is.main_is; back_is = y.back_is ∙ is.back_is }

  pub back_set : (c x : List ℕ) → KeepsBack n c x → HasBack n c (set x STATE (state_word Mutating))
  back_set c x is = let y = state_set n (state_word Mutating) x (known_state Mutating) is.0 in record { heap = y.heap; state_is = y.state_is; back_is = y.back_is ∙ is.1 }

  pub stands_back : (main c x : List ℕ) → IsHeapInState n Mutating main c x → HasBack n c x
  stands_back main c x is = record { heap = is.heap; state_is = is.state_is; back_is = is.back_is }

  pub stands_twins : (state : State) (c x : List ℕ) → IsHeapInState n state c c x → Twins n c x
  stands_twins state c x is = record { heap = is.heap; main_is = is.main_is; back_is = is.back_is }

  pub stands_main : (m c x : List ℕ) → IsHeapInState n Copying m c x → HasMain n m x
  stands_main m c x is = record { heap = is.heap; state_is = is.state_is; main_is = is.main_is }

  -- within `begin`, and within the last write of a batch or a repair
  pub twins_writes : (s : State) (c x y : List ℕ) → Twins n c x → WritesWord STATE (state_word s) x y → Twins n c y
  twins_writes s c x y is (inl same) = subst (λ (l : List ℕ). Twins n c l) (sym same) is
  twins_writes s c x y is (inr put) = subst (λ (l : List ℕ). Twins n c l) (sym put) (stands_twins s c (set x STATE (state_word s)) (twins_set s c x is))

  -- within `persist`
  pub persisting : (base len : ℕ) (c x y : List ℕ) → base ≡ MAIN → len ≡ region_len n → HasBack n c x → ChangesOnly base len x y → HasBack n c y
  persisting base len c x y at many is within = record {
    heap = heap_within n base len x y (omega (arith, at)) within is.heap;
    state_is = within.before STATE (omega (arith, at)) ∙ is.state_is;
    back_is = part_behind (back_at n) (region_len n) base len x y within (omega (arith, is.heap.long)) (omega (arith, at, many)) ∙ is.back_is;
  }

  pub persisted : (base : ℕ) (c m x y : List ℕ) → base ≡ MAIN → length m ≡ region_len n → HasBack n c x → ChangesOnly base (length m) x y → IsBut [] base m y → IsHeapInState n Mutating m c y
  persisted base c m x y at long is within whole = let then = persisting base (length m) c x y at long is within in record {
    heap = then.heap;
    state_is = then.state_is;
    main_is = part_is MAIN (region_len n) m y long (omega (arith, then.heap.long)) (λ k lt. subst (λ (b : ℕ). slice_index y (b + k) ≡ slice_index m k) at (whole k (omega (arith, long, lt)) (λ none. none)));
    back_is = then.back_is;
  }

  -- within `commit`
  pub committing : (m c x y : List ℕ) → IsHeapInState n Mutating m c x → WritesWord STATE (state_word Copying) x y → Committing n c m y
  committing m c x y is (inl same) = inl (subst (λ (l : List ℕ). IsHeapInState n Mutating m c l) (sym same) is)
  committing m c x y is (inr put) = inr (subst (λ (l : List ℕ). IsHeapInState n Copying m c l) (sym put) (stands_set Mutating Copying m c x is))

  pub in_doubt : (m c x : List ℕ) → Committing n c m x → ImageOf Doubt n c m x
  in_doubt m c x (inl is) = inl (stands_back m c x is)
  in_doubt m c x (inr is) = inr is

  pub both_whole : (m c x : List ℕ) → Committing n c m x → KeepsBack n c x × (main_of n x ≡ m)
  both_whole m c x (inl is) = ((is.heap, is.back_is), is.main_is)
  both_whole m c x (inr is) = ((is.heap, is.back_is), is.main_is)

  -- within `copy`
  pub copying : (base len : ℕ) (m x y : List ℕ) → base ≡ back_at n → len ≡ region_len n → HasMain n m x → ChangesOnly base len x y → HasMain n m y
  copying base len m x y at many is within = record {
    heap = heap_within n base len x y (omega (arith, at)) within is.heap;
    state_is = within.before STATE (omega (arith, at)) ∙ is.state_is;
    main_is = part_before MAIN (region_len n) base len x y within (omega (arith, is.heap.long)) (omega (arith, at)) ∙ is.main_is;
  }

  pub copied : (base : ℕ) (m b x y : List ℕ) → base ≡ back_at n → length b ≡ region_len n → HasMain n m x → ChangesOnly base (length b) x y → IsBut [] base b y → IsHeapInState n Copying m b y
  copied base m b x y at long is within whole = let then = copying base (length b) m x y at long is within in record {
    heap = then.heap;
    state_is = then.state_is;
    main_is = then.main_is;
    back_is = part_is (back_at n) (region_len n) b y long (omega (arith, then.heap.long)) (λ k lt. subst (λ (a : ℕ). slice_index y (a + k) ≡ slice_index b k) at (whole k (omega (arith, long, lt)) (λ none. none)));
  }

  -- within the first write of a repair
  pub undoing : (c x y : List ℕ) → KeepsBack n c x → WritesWord STATE (state_word Mutating) x y → (y ≡ x) ⊎ HasBack n c y
  undoing c x y is (inl same) = inl same
  undoing c x y is (inr put) = inr (subst (λ (l : List ℕ). HasBack n c l) (sym put) (back_set c x is))

-- the words of a region are those of the part
pub but_part : (at base n : ℕ) (rs : List Range) (m x : List ℕ) → base ≡ at → length m ≡ region_len n → SameBut rs (part at (region_len n) x) m → IsBut rs base m x
but_part at base n rs m x is long but k lt away = subst (λ (b : ℕ). slice_index x (b + k) ≡ slice_index m k) (sym is) (sym (get_or-part at (region_len n) x k (omega (arith, long, lt))) ∙ but k lt away)

-- what is committed in each phase
abbrev pub kept : Phase → List ℕ → List ℕ → List ℕ
kept Copied c m = m
kept Redo c m = m
kept other c m = c

pub committed_is : (phase : Phase) (n : ℕ) (c m w : List ℕ) → ImageOf phase n c m w → committed_in phase n w ≡ kept phase c m
committed_is Clean n c m w is = is.back_is
committed_is Begun n c m w is = is.back_is
committed_is Persisted n c m w is = is.back_is
committed_is Committed n c m w is = is.back_is
committed_is Copied n c m w is = is.main_is
committed_is Undo n c m w (inl is) = is.back_is
committed_is Undo n c m w (inr is) = is.back_is
committed_is Doubt n c m w (inl is) = is.back_is
committed_is Doubt n c m w (inr is) = is.back_is
committed_is Redo n c m w is = is.main_is

pub kept_same : (phase : Phase) (n : ℕ) (c m w : List ℕ) → ImageOf phase n c m w → ImageOf phase n (kept phase c m) m w
kept_same Clean n c m w is = is
kept_same Begun n c m w is = is
kept_same Persisted n c m w is = is
kept_same Committed n c m w is = is
kept_same Copied n c m w is = is
kept_same Undo n c m w is = is
kept_same Doubt n c m w is = is
kept_same Redo n c m w is = is

module _ {D : Type 0} (shown : ShownDevice D) where
  pub committed_now : (t : Seen D) (c m : List ℕ) → shown.leaves t.device (shown.words t.device) → ((i : List ℕ) → shown.leaves t.device i → ImageOf t.phase t.order c m i) → committed shown t ≡ kept t.phase c m
  committed_now t c m reads all = committed_is t.phase t.order c m (shown.words t.device) (all (shown.words t.device) reads)

  -- where each image is of the phase
  pub in_phase : (t : Seen D) (c m : List ℕ) → shown.leaves t.device (shown.words t.device) → ((i : List ℕ) → shown.leaves t.device i → ImageOf t.phase t.order c m i) → InPhase shown t
  in_phase t c m reads all = record {
    new = m;
    each = λ i left. subst (λ (z : List ℕ). ImageOf t.phase t.order z m i) (sym (committed_now t c m reads all)) (kept_same t.phase t.order c m i (all i left));
  }

  -- each image of the named phase
  pub each_of : (t : Seen D) (phase : Phase) → t.phase ≡ phase → (known : InPhase shown t) → (i : List ℕ) → shown.leaves t.device i → ImageOf phase t.order (committed shown t) known.new i
  each_of t phase is known i left = subst (λ (p : Phase). ImageOf p t.order (committed shown t) known.new i) is (known.each i left)

  -- main is the committed image still
  pub begun_main : (t : Seen D) → t.phase ≡ Begun → shown.leaves t.device (shown.words t.device) → InPhase shown t → main_of t.order (shown.words t.device) ≡ committed shown t
  begun_main t is reads known = (each_of t Begun is known (shown.words t.device) reads).main_is
