-- The passes of a session, one after another, as its device went through them.
-- Each record has the devices before and after its pass: by counts of faults alone, a fault could be told to
-- the callers of another pass. A pass reads nothing and makes no more syncs than one batch and one repair, so
-- it can hold neither an opening nor two whole batches. The record of a pass that added to the history has the
-- moment of its commit. Who is told of that pass knows this moment by then (`IsDatedBy`). A body that
-- is generic in the device cannot name a moment that is still to come: so each reply comes behind the commit.
use Rattle.std.specs.Prelude.{◌≡◌, ◌⊎◌, ℕ, ◌+◌, ◌<◌, ◌≤◌, List, [], ◌∷◌, length, Option, IsTrue}
use Rattle.rom_model.specs.Blocks.{region_len}
use Rattle.rom_model.specs.Faults.{Rose}
use Rattle.rom_model.specs.Story.{Story, doubted_batch}
use Rattle.rom_model.specs.declared.record.Fate.{Fate}
use Rattle.rom_model.specs.declared.record.Fate.TheVariants.{Published, Failed, Doubt}
use Rattle.rom_model.specs.declared.record.PassRecord.{PassRecord}
use Rattle.rom_device.specs.Device.{ShownDevice, Becomes, Runs}
use Rattle.rom_twin.specs.Seen.{NeedsRepair}
use Rattle.rom_twin.specs.declared.phase.Phase.{Phase}
use Rattle.rom_combine.specs.Causes.{BeginsIn, FailsAtCommit, FailsBeforeCommit}
use Rattle.rom_combine.specs.Costs.{SpendsAtMost, batch_syncs, batch_writes, syncs_before_commit, writes_before_commit}
use Rattle.rom_combine.specs.Session.{HoldsAfter}

module _ {D S : Type 0} (shown : ShownDevice D) (Contents : ℕ → List ℕ → S → ℕ → Type 0) (step : ℕ → S → ℕ → List ℕ → Option (S × List ℕ)) (story : Story S) where
  -- What a pass that ended so may have put in place of the history before it: that with its batch, and none where it failed before the commit.
  abbrev pub MayMake : Fate → PassRecord → List ℕ → Type 0
  MayMake Published r i = HoldsAfter Contents step story r.len [] i
  MayMake Failed r i = ⊥
  MayMake Doubt r i = HoldsAfter Contents step story r.len (doubted_batch step story r) i

  -- Each image that a pass makes, which found the history at this length: the history so far, or that with the pass's batch.
  abbrev pub PassImage : ℕ → PassRecord → List ℕ → Type 0
  PassImage len r i = HoldsAfter Contents step story len [] i ⊎ MayMake r.fate r i

  -- Why a pass that began in this phase, on this region, and ended so failed, if it did: before COPYING was to be written, with no more writes and syncs than come before it; or at it.
  abbrev pub HasPassCause : Fate → Phase → List ℕ → D → D → Type 0
  HasPassCause Published phase region was now = Unit {0}
  HasPassCause Failed phase region was now = FailsBeforeCommit shown phase story.order region was now × SpendsAtMost shown (writes_before_commit phase story.order (region_len story.order)) (syncs_before_commit phase) was now
  HasPassCause Doubt phase region was now = FailsAtCommit shown phase story.order region was now

  -- The pass of this record, which found the history at this length and the device so, and left it so.
  pub record IsPassOn (len : ℕ) (r : PassRecord) (was now : D) : Type 0 where
    -- the record's counts are the device's
    pub before : shown.faults was ≡ r.faults_before
    pub after : shown.faults now ≡ r.faults_after
    -- The phase that it began in, and the committed region: the device stood so, and its count of faults had risen since the opening where it needs a repair.
    -- So a fault of the pass before, in its copy to back, is not told to the callers of this one.
    pub phase : Phase
    pub region : List ℕ
    pub began : BeginsIn shown phase story.order region was
    pub needed : NeedsRepair phase → Rose story.opening_faults (shown.faults was)
    pub cause : HasPassCause r.fate phase region was now
    -- nothing is read, and no more is called than one batch takes, with the repair before it where that phase needs one
    pub unread : shown.reads now ≡ shown.reads was
    pub most : SpendsAtMost shown (batch_writes phase story.order (region_len story.order)) (batch_syncs phase) was now
    pub reached : (len ≤ length story.history) × (r.len ≤ length story.history)
    -- none takes any of the history back
    pub risen : len ≤ r.len
    -- the device at its commit, which may be its end where it added nothing: each image that the pass makes until then is of `PassImage`, and each that it makes from there on holds the history up to its end
    pub mid : D
    pub images : IsTrue shown.tells_images → Runs shown (Becomes (PassImage len r)) was mid
    pub since : IsTrue shown.tells_images → Runs shown (Becomes (HoldsAfter Contents step story r.len [])) mid now
    -- Of a pass that added to the history the record has that device's moment.
    pub dated : len < r.len → r.committed ≡ shown.clock mid
    -- What it published is certain from then on: a stop leaves it.
    -- Replies go out between the commit and the copy.
    pub certain : IsTrue shown.tells_images → len < r.len → (i : List ℕ) → shown.leaves mid i → HoldsAfter Contents step story r.len [] i
    -- and until then no more is called than a batch of the whole region, with its repair, calls up to the sync of its commit: three of its four syncs
    pub soon : len < r.len → SpendsAtMost shown (writes_before_commit phase story.order (region_len story.order) + 1) (syncs_before_commit phase + 1) was mid

  -- The passes of these records, one after another, from the one device to the other: between two of them none is called.
  abbrev pub ArePassesOn : ℕ → List PassRecord → D → D → Type 0
  ArePassesOn len [] was now = now ≡ was
  ArePassesOn len (r ∷ rs) was now = (next : D) × IsPassOn len r was next × ArePassesOn r.len rs next now

  -- All passes of the story, since a device of which this held: it went through them, up to now.
  -- A program that is generic in the device can name no other devices than those that its calls led to. Of a
  -- program that is written for one device this says nothing.
  pub record WentThrough (First : D → Type 0) (now : D) : Type 0 where
    pub first : D
    pub begun : First first
    pub passes : ArePassesOn 0 story.records first now
