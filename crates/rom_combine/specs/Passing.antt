-- What a pass does to the published history, to the records, and to what callers are told.
use Rattle.std.specs.Prelude.{◌≡◌, ◌⊎◌, ◌↔◌, ℕ, ◌+◌, ◌*◌, List, [], ◌∷◌, ◌++◌, map, length, true, Option, IsTrue}
use Rattle.rom_model.specs.Blocks.{region_len}
use Rattle.rom_model.specs.Faults.{Rose}
use Rattle.rom_model.specs.Machine.{Machine, on_words, weight_on_words}
use Rattle.rom_model.specs.Passes.{fate_told, published}
use Rattle.rom_model.specs.declared.entry.Entry.{Entry}
use Rattle.rom_model.specs.declared.record.PassRecord.{PassRecord}
use Rattle.rom_device.specs.Device.{ShownDevice, Becomes, Runs}
use Rattle.rom_twin.specs.declared.phase.Phase.TheVariants.{Clean, Redo}
use Rattle.rom_combine.specs.Answering.{SameCalls}
use Rattle.rom_combine.specs.AtRest.{Locked}
use Rattle.rom_combine.specs.Costs.{IsUnfailed, SpendsAtMost, SpendsWithin, batch_syncs, batch_writes, syncs_before_commit, weights_added, writes_before_commit}
use Rattle.rom_combine.specs.Histories.{ImageAt, IsCertainSince, PassMakes}
use Rattle.rom_combine.specs.Scanning.{IsScan}
use Rattle.rom_combine.specs.Told.{fate_of}
use Rattle.rom_combine.specs.declared.passed.Outcome.TheVariants.{Nothing}
use Rattle.rom_combine.specs.declared.passed.Passed.{Passed}
use Rattle.rom_combine.specs.declared.scanning.Posted.{Posted}
use Rattle.rom_rule.specs.Calls.{found_of}
use Rattle.rom_rule.specs.Kinds.{IsBatch, record_list}
use Rattle.rom_rule.specs.Records.{IsCall}
use Rattle.rom_rule.specs.Views.{Each, plan_of, records_of}
use Rattle.rom_rule.specs.declared.views.Base.{Base}
use Rattle.rom_rule.specs.declared.views.Plan.{Plan}

-- One pass, from the plan p to the plan q, with the device's counts of faults at the pass's start and end. Each caller's turn was loaded once, in rising order. `front` is the count before, and `more` the batch of the found calls: the history grows by it where it is published. Where a call was found the pass has one record, with this moment, which tells each of them what became of it, and each is answered so.
pub record IsPass {S : Type 0} (Contents : ℕ → List ℕ → S → ℕ → Type 0) (step : ℕ → S → ℕ → List ℕ → Option (S × List ℕ)) (b : Base) (p q : Plan) (callers before now : ℕ) (r : Passed) : Type 0 where
  pub passes : q.passes ≡ p.passes + 1
  pub dealt : q.dealt ≡ p.dealt
  pub scanned : Plan
  pub items : List Posted
  pub scan : IsScan (IsCall step b) p scanned callers items
  pub calls : SameCalls scanned q
  pub found : r.found ≡ length items
  pub nothing : (r.outcome ≡ Nothing) ↔ (length items ≡ 0)
  pub front : ℕ
  pub more : List Entry
  pub moment : ℕ
  pub batch : IsBatch Contents step b scanned front more
  pub done : r.done ≡ length (published (fate_of r.outcome) more)
  pub history : q.history ≡ p.history ++ published (fate_of r.outcome) more
  pub records : records_of q ≡ records_of p ++ record_list (map found_of scanned.requests) record { found = map found_of scanned.requests; fate = fate_of r.outcome; faults_before = before; faults_after = now; len = length q.history; committed = moment }
  pub told : q.told ≡ p.told ++ fate_told (fate_of r.outcome) front (map found_of scanned.requests) more
  pub answered : Each (λ _ f. f.answered ≡ true) q.requests

-- A pass of the core, which was the one before it and is the other after it.
module _ {D S C Q R A : Type 0} (shown : ShownDevice D) (Contents : ℕ → List ℕ → S → ℕ → Type 0) (machine : Machine S C Q R A) (old new : Locked D) where
  -- However it ended: what it did and answered, and what a stop leaves of it.
  pub record HasPassed (callers : ℕ) (result : Passed) : Type 0 where
    -- what it did to the history, the records and the callers
    pub is : IsPass Contents (on_words machine) old.view.base (plan_of old.view) (plan_of new.view) callers (shown.faults old.twin.device) (shown.faults new.twin.device) result
    -- Each image that it made holds the history before it, or, unless it failed, that followed by its batch.
    pub since : IsTrue shown.tells_images → (s : S) (n : ℕ) → Contents old.view.base.order old.view.base.image s n →
        Runs shown (Becomes (PassMakes Contents (on_words machine) old.view.base s n (fate_of result.outcome) (plan_of old.view).history is.more)) old.twin.device new.twin.device
    -- Each image that a stop leaves now holds the published history, or, in the phase `Doubt` alone, that followed by the batch in doubt.
    pub now : IsTrue shown.tells_images → (s : S) (n : ℕ) → Contents old.view.base.order old.view.base.image s n → (i : List ℕ) → shown.leaves new.twin.device i →
        ImageAt Contents (on_words machine) old.view.base s n new.twin.phase (plan_of new.view) i

  -- The pass did a call. A call stores so many words at most for each unit of its weight.
  pub record HasDoneBatch (stores : ℕ) : Type 0 where
    -- the device at the commit
    pub mid : D
    -- Its moment then stands in the pass's record, which is the last.
    pub dated : (rs : List PassRecord) (r : PassRecord) → records_of (plan_of new.view) ≡ rs ++ r ∷ [] → r.committed ≡ shown.clock mid
    -- No more was called until then than up to the commit's sync.
    pub soon : SpendsAtMost shown (writes_before_commit old.twin.phase old.twin.order (region_len old.twin.order) + 1) (syncs_before_commit old.twin.phase + 1) old.twin.device mid
    -- A stop leaves the batch from the commit on, whatever becomes of the rest.
    pub certain : IsTrue shown.tells_images → (s : S) (n : ℕ) → Contents old.view.base.order old.view.base.image s n →
        IsCertainSince Contents (on_words machine) old.view.base s n shown (plan_of old.view).history (plan_of new.view).history old.twin.device mid new.twin.device
    -- The pass leaves the phase `Clean`, or `Redo`, which needs a repair.
    pub repaired : (new.twin.phase ≡ Clean) ⊎ (new.twin.phase ≡ Redo)
    -- It leaves `Redo` only where the device failed in it.
    pub undone : new.twin.phase ≡ Redo → Rose (shown.faults old.twin.device) (shown.faults new.twin.device)
    -- Where the device did not fail: four syncs and at most 2 s k + 3 writes, and a repair's where one was needed. s is `stores`, and k the sum of the weights of the calls done.
    pub spends : IsUnfailed shown old.twin.device new.twin.device →
        SpendsWithin shown (batch_writes old.twin.phase old.twin.order (stores * weights_added (weight_on_words machine) (plan_of old.view).history (plan_of new.view).history)) (batch_syncs old.twin.phase) old.twin.device new.twin.device
