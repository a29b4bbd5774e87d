-- How the publishing of a batch ends, and a pass by it: published, failed or in doubt.
use Rattle.std.specs.Prelude.{◌≡◌, ◌⊎◌, ℕ, ◌+◌, ◌*◌, ◌≤◌, List, IsTrue}
use Rattle.rom_model.specs.Blocks.{region_len}
use Rattle.rom_model.specs.Machine.{Machine, on_words, weight_on_words}
use Rattle.rom_model.specs.declared.record.Fate.TheVariants as fate
use Rattle.rom_device.specs.Device.{ShownDevice, Becomes, Runs}
use Rattle.rom_twin.specs.Seen.{InPhase, NeedsRepair, Seen, committed, main_now}
use Rattle.rom_twin.specs.declared.phase.Phase.TheVariants.{Committed, Doubt, Undo}
use Rattle.rom_ranges.specs.Changes.{IsLogOf}
use Rattle.rom_ranges.specs.Log.{Logged}
use Rattle.rom_ranges.specs.Ranges.{held_count}
use Rattle.rom_rule.specs.Readers.{Held}
use Rattle.rom_rule.specs.declared.views.Base.{Base}
use Rattle.rom_rule.specs.declared.views.Plan.{Plan}
use Rattle.rom_combine.specs.AtRest.{IsClear}
use Rattle.rom_combine.specs.Causes.{FailsAtCommit, FailsBeforeCommit}
use Rattle.rom_combine.specs.Costs.{Spends, SpendsAtMost, syncs_before_commit, weights_added, weights_found, writes_before_commit}
use Rattle.rom_combine.specs.Histories.{PassMakes, batch_found}
use Rattle.rom_combine.specs.Published.{IsPublished}
use Rattle.rom_combine.specs.Told.{fate_of}
use Rattle.rom_combine.specs.declared.passed.Outcome.{Outcome}
use Rattle.rom_combine.specs.declared.passed.Outcome.TheVariants as outcome

module _ {D : Type 0} (shown : ShownDevice D) where
  -- The batch failed before its commit. `words` are as many as the found calls may store, and `region` is the committed image before.
  pub record EndsFailed (words : ℕ) (region : List ℕ) (old new : Seen D) : Type 0 where
    -- The phase is `Undo`, or the one that the batch began in, where that needs a repair.
    pub phase : (new.phase ≡ Undo) ⊎ ((new.phase ≡ old.phase) × NeedsRepair old.phase)
    -- The device failed before COPYING was to be written, at its last call.
    pub cause : FailsBeforeCommit shown old.phase old.order region old.device new.device
    -- It made at most two syncs and one write more than `words`, and a repair's where one was needed.
    pub most : SpendsAtMost shown (writes_before_commit old.phase old.order words) (syncs_before_commit old.phase) old.device new.device
    -- Nor did it make more than come before COPYING in a batch that stores to each word of the region.
    pub whole : SpendsAtMost shown (writes_before_commit old.phase old.order (region_len old.order)) (syncs_before_commit old.phase) old.device new.device

  -- The batch is in doubt. `region` is the committed image before.
  pub record EndsInDoubt (region : List ℕ) (old new : Seen D) : Type 0 where
    -- The phase tells so.
    pub phase : new.phase ≡ Doubt
    -- The write of COPYING or the sync after it failed, and was the last call.
    pub cause : FailsAtCommit shown old.phase old.order region old.device new.device

-- Of the batch of the calls that a plan p has found:
module _ {D S C Q R A : Type 0} (shown : ShownDevice D) (Contents : ℕ → List ℕ → S → ℕ → Type 0) (machine : Machine S C Q R A) (b : Base) (p : Plan) where
  -- The batch was published, and the plan is now q. A call stores so many words at most for each unit of its weight, and `before` is the device's count of faults as the pass began.
  pub record EndsPublished (q : Plan) (stores before : ℕ) (old new : Seen D) (log : Logged) : Type 0 where
    -- It is committed on the device before readers are sent to main.
    pub phase : new.phase ≡ Committed
    -- What main of the device reads is what readers are sent to.
    pub main : IsTrue shown.tells_images → main_now shown new ≡ q.main
    -- What back reads is the side that is still to be made so.
    pub back : IsTrue shown.tells_images → committed shown new ≡ q.back
    -- The history has grown by the batch, and the pass has its one record.
    pub published : IsPublished Contents (on_words machine) b p q before (shown.faults new.device)
    -- The record's moment is the device's now.
    pub dated : published.moment ≡ shown.clock new.device
    -- Main stands for the published history.
    pub held : (s : S) × (n : ℕ) × Contents b.order b.image s n × Held Contents (on_words machine) b s n q.main q.history
    -- The log holds what is to be made of back.
    pub logged : IsLogOf q.back q.main log
    -- It holds no more words than the calls that were done may store.
    pub few : held_count log.ranges ≤ stores * weights_added (weight_on_words machine) p.history q.history
    -- Nor more than the calls that were found may store.
    pub held_most : held_count log.ranges ≤ stores * weights_found (weight_on_words machine) p
    -- Nor more than the region has.
    pub within : held_count log.ranges ≤ region_len old.order
    -- So many writes and syncs were made as come up to COPYING and its sync, where only words in the log are written.
    pub spends : Spends shown (writes_before_commit old.phase old.order (held_count log.ranges) + 1) (syncs_before_commit old.phase + 1) old.device new.device

  -- What a stop leaves of the publishing, however it ends.
  pub record LeavesBatch (result : Outcome) (old new : Seen D) : Type 0 where
    -- Each image that a stop leaves now is of the phase.
    pub images : IsTrue shown.tells_images → InPhase shown new
    -- Each image that was made holds the history from before, or, unless the batch failed, that followed by the batch.
    pub since : IsTrue shown.tells_images → (s : S) (n : ℕ) → Contents b.order b.image s n →
        Runs shown (Becomes (PassMakes Contents (on_words machine) b s n (fate_of result) p.history (batch_found Contents (on_words machine) b s n p))) old.device new.device
    -- In doubt each image that a stop leaves now holds the one or the other.
    pub doubted : IsTrue shown.tells_images → result ≡ outcome.Doubt → (s : S) (n : ℕ) → Contents b.order b.image s n → (i : List ℕ) → shown.leaves new.device i →
        PassMakes Contents (on_words machine) b s n fate.Doubt p.history (batch_found Contents (on_words machine) b s n p) i

-- The batch was not published.
pub record EndsUnpublished {D : Type 0} (shown : ShownDevice D) (p q : Plan) (old new : Seen D) (log : Logged) : Type 0 where
  -- The log is clear.
  pub cleared : IsClear log
  -- The history, the records, the found calls and both sides are what they were.
  pub stays : q ≡ p
  -- So is the committed image.
  pub committed_is : IsTrue shown.tells_images → committed shown new ≡ committed shown old
