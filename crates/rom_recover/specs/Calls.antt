-- How many calls of the device recovery makes, and which of them may fail.
use Rattle.std.specs.Prelude.{◌≡◌, ℕ, ◌+◌, ◌*◌, ◌==◌, if◌then◌else◌, min, Bool, Result, Ok, Err, OnOk}
use Rattle.rom_model.specs.Blocks.{region_len}
use Rattle.rom_model.specs.Faults.{Adds, AtMost, FailedLast, StopsAtFault, counted}
use Rattle.rom_device.specs.Device.{ShownDevice, Does, OnlyReads, Stays}
use Rattle.rom_header.specs.declared.header.State.{State}
use Rattle.rom_header.specs.declared.header.State.TheVariants.{Idle, Mutating, Copying}
use Rattle.rom_recover.specs.declared.recovery.Recovered.{Recovered}
use Rattle.rom_recover.specs.declared.recovery.RecoverRefused.{RecoverRefused}
use Rattle.rom_recover.specs.declared.recovery.RecoverRefused.TheVariants.{Twins, Device}

-- No call follows one that failed: after `Ok` none failed, and after `Device` the last one did. A difference may be told where a later word could not be read.
abbrev pub HasFaults : {T : Type 0} → Result T RecoverRefused → ℕ → ℕ → Bool → Type 0
HasFaults (Ok done) before now failing = now ≡ before
HasFaults (Err Device) before now failing = FailedLast before now failing
HasFaults (Err (Twins offset main back)) before now failing = StopsAtFault before now failing

-- How many words are read at most where so many are to be compared: where they differ, at that offset, those up to the end of its piece.
abbrev pub reads_until : {T : Type 0} → ℕ → Result T RecoverRefused → ℕ
reads_until all (Err (Twins offset main back)) = min all (2 * (offset + 64))
reads_until all other = all

-- A comparison: so many words are read, and at a refusal at most so many.
pub record Compares {D T : Type 0} (shown : ShownDevice D) (reads : ℕ) (old new : D) (result : Result T RecoverRefused) : Type 0 where
  pub only : OnlyReads shown old new
  pub reads_made : OnOk result (Adds reads (shown.reads old) (shown.reads new))
  pub most_reads : AtMost (reads_until reads result) (shown.reads old) (shown.reads new)
  pub faults : HasFaults result (shown.faults old) (shown.faults new) (shown.failing new)

-- At most so many reads, writes and syncs were called.
pub record CallsWithin {D : Type 0} (shown : ShownDevice D) (reads writes syncs : ℕ) (was now : D) : Type 0 where
  pub most_reads : AtMost reads (shown.reads was) (shown.reads now)
  pub most_writes : AtMost writes (shown.writes was) (shown.writes now)
  pub most_syncs : AtMost syncs (shown.syncs was) (shown.syncs now)

-- Nothing is written, and one sync is called.
pub record SyncsOnce {D : Type 0} (shown : ShownDevice D) (old new : D) : Type 0 where
  pub stays : Does shown Stays old new
  pub writes : shown.writes new ≡ shown.writes old
  pub syncs : shown.syncs new ≡ counted (shown.syncs old)

-- how many words a recovery from this state reads: the state and both regions under IDLE, else the state and the region that counts
abbrev pub reads_of_recovery : ℕ → State → ℕ
reads_of_recovery order Idle = 1 + 2 * region_len order
reads_of_recovery order Mutating = 1 + region_len order
reads_of_recovery order Copying = 1 + region_len order

-- and at most, whatever it answers, by the word of the state
abbrev pub reads_at_most : ℕ → ℕ → ℕ
reads_at_most order state = 1 + (if state == 0 then 2 else 1) * region_len order

-- how many it writes: none under IDLE, else the state as it reads, the other region, and the state
abbrev pub writes_of_recovery : ℕ → State → ℕ
writes_of_recovery order Idle = 0
writes_of_recovery order Mutating = region_len order + 2
writes_of_recovery order Copying = region_len order + 2

-- how often it syncs
abbrev pub syncs_of_recovery : State → ℕ
syncs_of_recovery Idle = 1
syncs_of_recovery Mutating = 4
syncs_of_recovery Copying = 4

-- The reads that recovery made, by its answer: those of the state that it found; where the regions differ at most those up to that place, and where the device failed at most so many as any recovery makes.
abbrev pub AreReads : ℕ → Result Recovered RecoverRefused → ℕ → ℕ → Type 0
AreReads order (Ok recovered) before now = Adds (reads_of_recovery order recovered.found) before now
AreReads order (Err refused) before now = AtMost (1 + reads_until {T = Recovered} (2 * region_len order) (Err refused)) before now

-- the writes, likewise, of which there are none where the regions differ
abbrev pub AreWrites : ℕ → Result Recovered RecoverRefused → ℕ → ℕ → Type 0
AreWrites order (Ok recovered) before now = Adds (writes_of_recovery order recovered.found) before now
AreWrites order (Err (Twins offset main back)) before now = now ≡ before
AreWrites order (Err Device) before now = AtMost (region_len order + 2) before now

-- the syncs, likewise, of which there is one where the regions differ
abbrev pub AreSyncs : Result Recovered RecoverRefused → ℕ → ℕ → Type 0
AreSyncs (Ok recovered) before now = Adds (syncs_of_recovery recovered.found) before now
AreSyncs (Err (Twins offset main back)) before now = Adds 1 before now
AreSyncs (Err Device) before now = AtMost 4 before now

-- No more than any recovery of a heap of this order asks for, whatever its words are.
abbrev pub WithinRecovery : {D : Type 0} → ShownDevice D → ℕ → D → D → Type 0
WithinRecovery shown order was now = CallsWithin shown (1 + 2 * region_len order) (region_len order + 2) 4 was now

-- The calls that recovery made.
pub record Calls {D : Type 0} (shown : ShownDevice D) (order : ℕ) (old new : D) (result : Result Recovered RecoverRefused) : Type 0 where
  pub reads : AreReads order result (shown.reads old) (shown.reads new)
  pub writes : AreWrites order result (shown.writes old) (shown.writes new)
  pub syncs : AreSyncs result (shown.syncs old) (shown.syncs new)
  pub faults : HasFaults result (shown.faults old) (shown.faults new) (shown.failing new)
