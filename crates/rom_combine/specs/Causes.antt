-- How the device stands as a batch begins, and why one failed, as the device shows it.
use Rattle.std.specs.Prelude.{ℕ, ◌≤◌, List, IsTrue}
use Rattle.rom_model.specs.Faults.{Adds, AtMost, FailedLast, Rose}
use Rattle.rom_device.specs.Device.{ShownDevice, Becomes, Does, Runs, WritesWord}
use Rattle.rom_header.specs.Headers.{state_word}
use Rattle.rom_header.specs.Layout.{STATE}
use Rattle.rom_header.specs.declared.header.State.TheVariants.{Copying}
use Rattle.rom_twin.specs.Images.{HasBack, Twins}
use Rattle.rom_twin.specs.declared.phase.Phase.{Phase}
use Rattle.rom_twin.specs.declared.phase.Phase.TheVariants.{Clean, Begun, Persisted, Committed, Copied, Undo, Doubt, Redo}
use Rattle.rom_combine.specs.Images.{BeforeCommit}

-- How the device stands as a batch begins in this phase: in `Clean` whatever a stop leaves has the committed region twice; in those that a fault leaves its last call failed. None begins in another.
abbrev pub BeginsIn : {D : Type 0} → ShownDevice D → Phase → ℕ → List ℕ → D → Type 0
BeginsIn shown Clean order region was = IsTrue shown.tells_images → (i : List ℕ) → shown.leaves was i → Twins order region i
BeginsIn shown Begun order region was = ⊥
BeginsIn shown Persisted order region was = ⊥
BeginsIn shown Committed order region was = ⊥
BeginsIn shown Copied order region was = ⊥
BeginsIn shown Undo order region was = IsTrue (shown.failing was)
BeginsIn shown Doubt order region was = IsTrue (shown.failing was)
BeginsIn shown Redo order region was = IsTrue (shown.failing was)

-- The phase and the devices are those before the batch and after it, and the region is the committed image.
module _ {D : Type 0} (shown : ShownDevice D) (phase : Phase) (order : ℕ) (region : List ℕ) (old new : D) where
  -- The device failed before COPYING was to be written: its last call failed, and each image that was made is one of before the commit.
  pub record FailsBeforeCommit : Type 0 where
    pub rose : Rose (shown.faults old) (shown.faults new)
    pub last : IsTrue (shown.failing new)
    pub images : IsTrue shown.tells_images → Runs shown (Becomes (BeforeCommit phase order region)) old new

  -- The device failed as COPYING was to be made certain: the write of it or the sync after it failed, and no other call was made since.
  pub record FailsAtCommit : Type 0 where
    -- the device as COPYING was to be written
    pub at : D
    pub later : shown.faults old ≤ shown.faults at
    -- until then each image that was made is one of before the commit, and each that a stop leaves then is under MUTATING and has the committed region in back
    pub before : IsTrue shown.tells_images → Runs shown (Becomes (BeforeCommit phase order region)) old at
    pub mutating : IsTrue shown.tells_images → (i : List ℕ) → shown.leaves at i → HasBack order region i
    -- from then on COPYING alone was written
    pub does : Does shown (WritesWord STATE (state_word Copying)) at new
    pub failed : FailedLast (shown.faults at) (shown.faults new) (shown.failing new)
    pub written : Adds 1 (shown.writes at) (shown.writes new)
    pub synced : AtMost 1 (shown.syncs at) (shown.syncs new)
