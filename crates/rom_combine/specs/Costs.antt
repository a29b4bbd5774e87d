-- How many writes and syncs of the device a batch makes.
use Rattle.std.specs.Prelude.{◌≡◌, ℕ, ◌+◌, ◌*◌, ◌≤◌, List, [], ◌∷◌, map, drop, length}
use Rattle.rom_model.specs.Blocks.{region_len}
use Rattle.rom_model.specs.Faults.{Adds, AtMost, Rose}
use Rattle.rom_model.specs.declared.entry.Entry.{Entry}
use Rattle.rom_model.specs.declared.record.Found.{Found}
use Rattle.rom_device.specs.Device.{ShownDevice, Does}
use Rattle.rom_header.specs.Layout.{MAIN}
use Rattle.rom_header.specs.Writing.{StateOrWithin}
use Rattle.rom_twin.specs.Calls.{repair_writes, repair_syncs}
use Rattle.rom_twin.specs.declared.phase.Phase.{Phase}
use Rattle.rom_twin.specs.declared.phase.Phase.TheVariants.{Clean, Begun, Persisted, Committed, Copied, Undo, Doubt, Redo}
use Rattle.rom_rule.specs.Calls.{found_of}
use Rattle.rom_rule.specs.declared.views.Plan.{Plan}

-- the sum of the weights of calls, by their words
abbrev pub weights : (List ℕ → ℕ) → List (List ℕ) → ℕ
weights weight [] = 0
weights weight (args ∷ calls) = weight args + weights weight calls

-- that of the calls that a pass found, which are the requests of its plan
abbrev pub weights_found : (List ℕ → ℕ) → Plan → ℕ
weights_found weight p = weights weight (map (λ (f : Found). f.args) (map found_of p.requests))

-- that of the calls by which a history has grown
abbrev pub weights_added : (List ℕ → ℕ) → List Entry → List Entry → ℕ
weights_added weight old new = weights weight (map (λ (e : Entry). e.args) (drop (length old) new))

-- The writes that lead from a phase at rest to `Clean`: a repair's from the phases that a fault leaves, and
-- none from `Clean` itself; nor from the phases of a batch under way, in which no batch begins.
abbrev pub mending_writes : Phase → ℕ → ℕ
mending_writes Clean order = 0
mending_writes Begun order = 0
mending_writes Persisted order = 0
mending_writes Committed order = 0
mending_writes Copied order = 0
mending_writes Undo order = repair_writes Undo order
mending_writes Doubt order = repair_writes Doubt order
mending_writes Redo order = repair_writes Redo order

-- the syncs that lead there, likewise
abbrev pub mending_syncs : Phase → ℕ
mending_syncs Clean = 0
mending_syncs Begun = 0
mending_syncs Persisted = 0
mending_syncs Committed = 0
mending_syncs Copied = 0
mending_syncs Undo = repair_syncs Undo
mending_syncs Doubt = repair_syncs Doubt
mending_syncs Redo = repair_syncs Redo

-- the writes of the repair, and then of a whole batch that changes so many words: MUTATING, these words of
-- main, COPYING, these words of back, each with a sync, and IDLE with none
abbrev pub batch_writes : Phase → ℕ → ℕ → ℕ
batch_writes phase order words = mending_writes phase order + (2 * words + 3)

-- the syncs of the repair, and then four of a whole batch
abbrev pub batch_syncs : Phase → ℕ
batch_syncs phase = mending_syncs phase + 4

-- the writes before COPYING: those of the repair, MUTATING, and these words of main
abbrev pub writes_before_commit : Phase → ℕ → ℕ → ℕ
writes_before_commit phase order words = mending_writes phase order + (words + 1)

-- the syncs before COPYING: those of the repair, and one each after MUTATING and the words of main
abbrev pub syncs_before_commit : Phase → ℕ
syncs_before_commit phase = mending_syncs phase + 2

-- only the state of a heap of this order and its two regions differ
abbrev pub WithinHeap : ℕ → List ℕ → List ℕ → Type 0
WithinHeap order old new = StateOrWithin MAIN (2 * region_len order) old new

module _ {D : Type 0} (shown : ShownDevice D) where
  -- no call of the device failed, and its count of faults is below its last value
  abbrev pub IsUnfailed : D → D → Type 0
  IsUnfailed old new = Rose (shown.faults old) (shown.faults new) → ⊥

  -- exactly so many writes and syncs were made
  pub record Spends (writes syncs : ℕ) (old new : D) : Type 0 where
    pub writes_made : Adds writes (shown.writes old) (shown.writes new)
    pub syncs_made : Adds syncs (shown.syncs old) (shown.syncs new)

  -- at most so many were made
  pub record SpendsAtMost (writes syncs : ℕ) (old new : D) : Type 0 where
    pub most_writes : AtMost writes (shown.writes old) (shown.writes new)
    pub most_syncs : AtMost syncs (shown.syncs old) (shown.syncs new)

  -- at most so many writes were made, and exactly so many syncs
  pub record SpendsWithin (writes syncs : ℕ) (old new : D) : Type 0 where
    pub most_writes : AtMost writes (shown.writes old) (shown.writes new)
    pub syncs_made : Adds syncs (shown.syncs old) (shown.syncs new)

  -- nothing was read, and the device is as long as it was
  pub record OnlyWrites (old new : D) : Type 0 where
    pub size : shown.size new ≡ shown.size old
    pub reads : shown.reads new ≡ shown.reads old

  -- What each step of a batch does to the device: nothing is read, only words of a heap of this order are written, and no fault is taken back.
  pub record WritesHeap (order : ℕ) (old new : D) : Type 0 where
    pub only : OnlyWrites old new
    pub does : Does shown (WithinHeap order) old new
    pub later : shown.faults old ≤ shown.faults new
