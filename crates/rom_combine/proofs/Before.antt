-- Images that are made before the commit.
use Rattle.std.proofs.Common.{◌≡◌, ◌⊎◌, inl, inr, ⊎_elim, ℕ, ◌<◌, List, length, set, slice_index, refl, sym, ap, ◌∙◌, subst, arith}
use Rattle.std.proofs.lemmas.List.{length-set, get_or-set_same}
use Rattle.rom_device.specs.Device.{ShownDevice, After, Becomes, Runs, WritesWord}
use Rattle.rom_header.specs.Layout.{STATE}
use Rattle.rom_header.specs.Regions.{IsCurrentRegion}
use Rattle.rom_twin.specs.Images.{Twins, HasBack, Repairing}
use Rattle.rom_twin.specs.Seen.{NeedsRepair, Rests}
use Rattle.rom_twin.specs.declared.phase.Phase.{Phase}
use Rattle.rom_twin.specs.declared.phase.Phase.TheVariants as phase
use Rattle.rom_combine.specs.Images.{BeforeCommit}
use Rattle.rom_combine.proofs.Counting.{back_region, repairing_region}
use Rattle.rom_combine.proofs.Since.{becomes_by, becomes_then}

module _ (order : ℕ) (c i : List ℕ) where
  pub back_before : (p : Phase) → HasBack order c i → BeforeCommit p order c i
  back_before phase.Clean is = is
  back_before phase.Begun is = is
  back_before phase.Persisted is = is
  back_before phase.Committed is = is
  back_before phase.Copied is = is
  back_before phase.Undo is = inl is
  back_before phase.Doubt is = inl is
  back_before phase.Redo is = inl is

  pub repair_before : (p : Phase) → NeedsRepair p → Repairing p order c i → BeforeCommit p order c i
  repair_before p (inl e) = subst (λ (z : Phase). Repairing z order c i → BeforeCommit z order c i) (sym e) (λ is. inr is)
  repair_before p (inr (inl e)) = subst (λ (z : Phase). Repairing z order c i → BeforeCommit z order c i) (sym e) (λ is. inr is)
  repair_before p (inr (inr e)) = subst (λ (z : Phase). Repairing z order c i → BeforeCommit z order c i) (sym e) (λ is. inr is)

  back_or : (p : Phase) → NeedsRepair p → HasBack order c i ⊎ Repairing p order c i → IsCurrentRegion order i c
  back_or p needs (inl is) = back_region order c i is
  back_or p needs (inr is) = repairing_region order c i p needs is

  -- in each the committed region counts
  pub before_counts : (p : Phase) → Rests p → BeforeCommit p order c i → IsCurrentRegion order i c
  before_counts p (inl e) = subst (λ (z : Phase). BeforeCommit z order c i → IsCurrentRegion order i c) (sym e) (λ is. back_region order c i is)
  before_counts p (inr (inl e)) = subst (λ (z : Phase). BeforeCommit z order c i → IsCurrentRegion order i c) (sym e) (back_or phase.Undo (inl refl))
  before_counts p (inr (inr (inl e))) = subst (λ (z : Phase). BeforeCommit z order c i → IsCurrentRegion order i c) (sym e) (back_or phase.Doubt (inr (inl refl)))
  before_counts p (inr (inr (inr e))) = subst (λ (z : Phase). BeforeCommit z order c i → IsCurrentRegion order i c) (sym e) (back_or phase.Redo (inr (inr refl)))

-- a run of which two things are known
pub runs_both : {D : Type 0} (shown : ShownDevice D) (at value : ℕ) (P Q : List ℕ → Type 0) (a b : D) → ((x i : List ℕ) → i ≡ set x at value → P i → Q i)
    → Runs shown (Becomes P) a b → Runs shown (WritesWord at value) a b → Runs shown (Becomes Q) a b
runs_both shown at value P Q a b joins becomes writes = record {
  later = becomes.later;
  now = λ i left. meet i (becomes.now i left) (writes.now i left);
  nothing_else = λ t i left. ⊎_elim (λ past. inl past) (λ here. ⊎_elim (λ past. inl past) (λ there. inr (meet i here there)) (writes.nothing_else t i left)) (becomes.nothing_else t i left);
  keeps = becomes.keeps;
}
  where
    meet : (i : List ℕ) → After (Becomes P) (shown.leaves a) i → After (WritesWord at value) (shown.leaves a) i → After (Becomes Q) (shown.leaves a) i
    meet i here there = ⊎_elim
        (λ same. record { from = here.from; was = here.was; by = inl same })
        (λ has. ⊎_elim
        (λ same. record { from = there.from; was = there.was; by = inl same })
        (λ put. record { from = there.from; was = there.was; by = inr (joins there.from i put has) }) there.by) here.by

-- where both regions are the same, MUTATING makes an image one of back
pub twins_mutating : (order : ℕ) (c x i : List ℕ) → i ≡ set x STATE 1 → Twins order c i → HasBack order c i
twins_mutating order c x i put is =
    let long : length i ≡ length x = ap (λ (l : List ℕ). length l) put ∙ length-set x STATE 1 in
    let lt : 3 < length x = omega (arith, is.heap.long, long) in
    record { heap = is.heap; state_is = ap (λ (l : List ℕ). slice_index l STATE) put ∙ get_or-set_same x STATE 1 0 lt; back_is = is.back_is }

-- A run of before the commit goes on under MUTATING.
pub before_on : {D : Type 0} (shown : ShownDevice D) (p : Phase) (order : ℕ) (c : List ℕ) (a b d : D) → Runs shown (Becomes (BeforeCommit p order c)) a b → Runs shown (Becomes (HasBack order c)) b d → Runs shown (Becomes (BeforeCommit p order c)) a d
before_on shown p order c a b d first second = becomes_then shown (BeforeCommit p order c) a b d first (becomes_by shown (HasBack order c) (BeforeCommit p order c) b d (λ i. back_before order c i p) second)
