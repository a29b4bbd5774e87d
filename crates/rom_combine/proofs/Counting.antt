-- The region that counts in the images of a twin.
use Rattle.std.proofs.Common.{◌≡◌, ◌≢◌, ◌⊎◌, inl, inr, sym, ap, ◌∙◌, subst, ℕ, List, slice_index, arith}
use Rattle.std.proofs.lemmas.Bool.{cases_eq}
use Rattle.rom_device.specs.Device.{ShownDevice}
use Rattle.rom_header.specs.Regions.{IsCurrentRegion}
use Rattle.rom_twin.specs.Images.{ImageOf, Twins, IsHeapInState, HasBack, HasMain, Repairing}
use Rattle.rom_header.specs.declared.header.State.TheVariants.{Mutating, Copying}
use Rattle.rom_twin.specs.Seen.{Seen, InPhase, NeedsRepair, Rests, committed, committed_in, main_now}
use Rattle.rom_twin.specs.declared.phase.Phase.{Phase}
use Rattle.rom_twin.specs.declared.phase.Phase.TheVariants.{Clean, Committed, Undo, Doubt, Redo}

module _ (n : ℕ) (c i : List ℕ) where
  pub twins_region : Twins n c i → IsCurrentRegion n i c
  twins_region is = record {
    heap = is.heap;
    counts = elim (cases_eq (slice_index i 3) 0) [
      | inl idle ↦ inl (idle, is.main_is, is.back_is)
      | inr other ↦ elim (cases_eq (slice_index i 3) 1) [
        | inl mutating ↦ inr (inl (mutating, is.back_is))
        | inr copying ↦ inr (inr (omega (arith, is.heap.state, other, copying), is.main_is))
      ]
    ];
  }

  pub back_region : HasBack n c i → IsCurrentRegion n i c
  back_region is = record { heap = is.heap; counts = inr (inl (is.state_is, is.back_is)) }

  pub main_region : HasMain n c i → IsCurrentRegion n i c
  main_region is = record { heap = is.heap; counts = inr (inr (is.state_is, is.main_is)) }

  pub mutating_region : (m : List ℕ) → IsHeapInState n Mutating m c i → IsCurrentRegion n i c
  mutating_region m is = record { heap = is.heap; counts = inr (inl (is.state_is, is.back_is)) }

  pub copying_region : (b : List ℕ) → IsHeapInState n Copying c b i → IsCurrentRegion n i c
  copying_region b is = record { heap = is.heap; counts = inr (inr (is.state_is, is.main_is)) }

  -- under MUTATING back is certain
  pub stands_back : (m : List ℕ) → IsHeapInState n Mutating m c i → HasBack n c i
  stands_back m is = record { heap = is.heap; state_is = is.state_is; back_is = is.back_is }

  -- what a repair makes
  pub repairing_region : (p : Phase) → NeedsRepair p → Repairing p n c i → IsCurrentRegion n i c
  repairing_region p (inl e) is = back_or (subst (λ (z : Phase). Repairing z n c i) e is)
    where
      back_or : HasBack n c i ⊎ Twins n c i → IsCurrentRegion n i c
      back_or (inl has) = back_region has
      back_or (inr twins) = twins_region twins
  repairing_region p (inr (inl e)) is = back_or (subst (λ (z : Phase). Repairing z n c i) e is)
    where
      back_or : HasBack n c i ⊎ Twins n c i → IsCurrentRegion n i c
      back_or (inl has) = back_region has
      back_or (inr twins) = twins_region twins
  repairing_region p (inr (inr e)) is = main_or (subst (λ (z : Phase). Repairing z n c i) e is)
    where
      main_or : HasMain n c i ⊎ Twins n c i → IsCurrentRegion n i c
      main_or (inl has) = main_region has
      main_or (inr twins) = twins_region twins

module _ {D : Type 0} (shown : ShownDevice D) (t : Seen D) where
  -- each image of the named phase
  pub each_of : (p : Phase) → t.phase ≡ p → (known : InPhase shown t) → (i : List ℕ) → shown.leaves t.device i → ImageOf p t.order (committed shown t) known.new i
  each_of p is known i left = subst (λ (z : Phase). ImageOf z t.order (committed shown t) known.new i) is (known.each i left)

  pub redo_region : t.phase ≡ Redo → shown.leaves t.device (shown.words t.device) → InPhase shown t → (i : List ℕ) → shown.leaves t.device i → IsCurrentRegion t.order i (committed shown t)
  redo_region is reads known i left =
      let all = each_of Redo is known in
      let new_is : known.new ≡ committed shown t = sym (all (shown.words t.device) reads).main_is ∙ sym (ap (λ (p : Phase). committed_in p t.order (shown.words t.device)) is) in
      main_region t.order (committed shown t) i (subst (λ (z : List ℕ). HasMain t.order z i) new_is (all i left))

  pub undo_region : t.phase ≡ Undo → InPhase shown t → (i : List ℕ) → shown.leaves t.device i → IsCurrentRegion t.order i (committed shown t)
  undo_region is known i left = either (each_of Undo is known i left)
    where
      either : HasBack t.order (committed shown t) i ⊎ Twins t.order (committed shown t) i → IsCurrentRegion t.order i (committed shown t)
      either (inl has) = back_region t.order (committed shown t) i has
      either (inr twins) = twins_region t.order (committed shown t) i twins

  -- once it is committed, what main reads counts
  pub committed_region : t.phase ≡ Committed → shown.leaves t.device (shown.words t.device) → InPhase shown t → (i : List ℕ) → shown.leaves t.device i → IsCurrentRegion t.order i (main_now shown t)
  committed_region is reads known i left =
      let all = each_of Committed is known in
      let new_is : known.new ≡ main_now shown t = sym (all (shown.words t.device) reads).main_is in
      copying_region t.order (main_now shown t) i (committed shown t) (subst (λ (z : List ℕ). IsHeapInState t.order Copying z (committed shown t) i) new_is (all i left))

  -- after a batch, and before its repair
  pub after_region : (t.phase ≡ Clean) ⊎ (t.phase ≡ Redo) → shown.leaves t.device (shown.words t.device) → InPhase shown t → (i : List ℕ) → shown.leaves t.device i → IsCurrentRegion t.order i (committed shown t)
  after_region (inl is) reads known i left = twins_region t.order (committed shown t) i (each_of Clean is known i left)
  after_region (inr is) reads known i left = redo_region is reads known i left

  -- at rest, where no batch is in doubt
  pub rest_region : Rests t.phase → t.phase ≢ Doubt → shown.leaves t.device (shown.words t.device) → InPhase shown t → (i : List ℕ) → shown.leaves t.device i → IsCurrentRegion t.order i (committed shown t)
  rest_region (inl is) other reads known i left = after_region (inl is) reads known i left
  rest_region (inr (inl is)) other reads known i left = undo_region is known i left
  rest_region (inr (inr (inl is))) other reads known i left = absurd (other is)
  rest_region (inr (inr (inr is))) other reads known i left = redo_region is reads known i left
