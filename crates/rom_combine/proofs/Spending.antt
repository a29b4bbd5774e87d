-- Writes and syncs of the device, and the words that they are made for.
use Rattle.std.proofs.Common.{◌≡◌, ℕ, ◌+◌, ◌≤◌, List, Result, length, subst, arith}
use Rattle.rom_device.specs.Device.{Makes, ShownDevice}
use Rattle.rom_ranges.specs.Changes.{IsLogOf}
use Rattle.rom_ranges.specs.Log.{Logged}
use Rattle.rom_ranges.specs.Ranges.{AreWithin, held_count}
use Rattle.rom_twin.specs.declared.phase.Phase.{Phase}
use Rattle.rom_combine.specs.Costs.{SpendsAtMost, mending_syncs, mending_writes, syncs_before_commit, writes_before_commit, batch_syncs, batch_writes}

-- some, and then some more
pub most_then : {D : Type 0} (shown : ShownDevice D) (w s w' s' writes syncs : ℕ) (a b d : D) → SpendsAtMost shown w s a b → SpendsAtMost shown w' s' b d → w + w' ≤ writes → s + s' ≤ syncs → SpendsAtMost shown writes syncs a d
most_then shown w s w' s' writes syncs a b d first second few few' = record {
  most_writes = record { later = omega (arith, first.most_writes.later, second.most_writes.later); most = omega (arith, first.most_writes.most, second.most_writes.most, few) };
  most_syncs = record { later = omega (arith, first.most_syncs.later, second.most_syncs.later); most = omega (arith, first.most_syncs.most, second.most_syncs.most, few') };
}

-- none
pub none_most : {D : Type 0} (shown : ShownDevice D) (writes syncs : ℕ) (a : D) → SpendsAtMost shown writes syncs a a
none_most shown writes syncs a = record { most_writes = record { later = omega arith; most = omega arith }; most_syncs = record { later = omega arith; most = omega arith } }

-- at most so many, and so at most more
pub most_within : {D : Type 0} (shown : ShownDevice D) (w s writes syncs : ℕ) (a b : D) → SpendsAtMost shown w s a b → w ≤ writes → s ≤ syncs → SpendsAtMost shown writes syncs a b
most_within shown w s writes syncs a b most few few' = record {
  most_writes = record { later = most.most_writes.later; most = omega (arith, most.most_writes.most, few) };
  most_syncs = record { later = most.most_syncs.later; most = omega (arith, most.most_syncs.most, few') };
}

-- a batch that began, and whose commit was tried with no more words held than these; and one whose commit was not come to
pub tried_most : {D T E : Type 0} (shown : ShownDevice D) (phase : Phase) (order words held : ℕ) (a b d : D) (result : Result T E) → SpendsAtMost shown (mending_writes phase order + 1) (mending_syncs phase + 1) a b → Makes shown 0 (held + 1) 2 b d result → held ≤ words
    → SpendsAtMost shown (writes_before_commit phase order words + 1) (syncs_before_commit phase + 1) a d
tried_most shown phase order words held a b d result first makes few = most_then shown (mending_writes phase order + 1) (mending_syncs phase + 1) (held + 1) 2 (writes_before_commit phase order words + 1) (syncs_before_commit phase + 1) a b d first
    (record { most_writes = makes.most_writes; most_syncs = makes.most_syncs }) (omega (arith, few)) (omega arith)

pub undone_most : {D : Type 0} (shown : ShownDevice D) (phase : Phase) (order words held : ℕ) (a b d : D) → SpendsAtMost shown (mending_writes phase order + 1) (mending_syncs phase + 1) a b → SpendsAtMost shown held 1 b d → held ≤ words
    → SpendsAtMost shown (writes_before_commit phase order words) (syncs_before_commit phase) a d
undone_most shown phase order words held a b d first second few = most_then shown (mending_writes phase order + 1) (mending_syncs phase + 1) held 1 (writes_before_commit phase order words) (syncs_before_commit phase) a b d first second (omega (arith, few)) (omega arith)

-- up to the commit no more than in the whole batch
pub batch_most : {D : Type 0} (shown : ShownDevice D) (phase : Phase) (order words : ℕ) (a d : D) → SpendsAtMost shown (writes_before_commit phase order words + 1) (syncs_before_commit phase + 1) a d → SpendsAtMost shown (batch_writes phase order words) (batch_syncs phase) a d
batch_most shown phase order words a d most = most_within shown (writes_before_commit phase order words + 1) (syncs_before_commit phase + 1) (batch_writes phase order words) (batch_syncs phase) a d most (omega arith) (omega arith)

-- a log of where two regions differ holds no more offsets than they have words
pub held_in_region : (back main : List ℕ) (log : Logged) (words : ℕ) → length main ≡ words → IsLogOf back main log → ((len : ℕ) → AreWithin len log.ranges → held_count log.ranges ≤ len) → held_count log.ranges ≤ words
held_in_region back main log words long logged few = few words (subst (λ (n : ℕ). AreWithin n log.ranges) long logged.within)
