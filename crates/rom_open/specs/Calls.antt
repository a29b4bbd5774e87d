-- How many calls of the device an opening makes, and which of them may fail.
use Rattle.std.specs.Prelude.{◌≡◌, ℕ, ◌+◌, ◌*◌, ◌==◌, min, Bool, true, false, if◌then◌else◌, nat_lt, List, slice_index, Result, Ok, Err}
use Rattle.rom_model.specs.Blocks.{region_len}
use Rattle.rom_model.specs.Faults.{Adds, AtMost, FailedLast, StopsAtFault}
use Rattle.rom_device.specs.Device.{ShownDevice}
use Rattle.rom_header.specs.Layout.{STATE}
use Rattle.rom_open.specs.Refusals.{named_order}
use Rattle.rom_open.specs.declared.reasons.Why.{Why}
use Rattle.rom_open.specs.declared.reasons.Why.TheVariants.{NotAHeap, BadVersion, BadOrder, BadState, TooSmall, Twins, OldRegion, NewRegion, Malformed, Device, OutOfMemory}

-- whether the device has been recovered where a refusal says so
abbrev pub is_late : Why → Bool
is_late NotAHeap = false
is_late (BadVersion version) = false
is_late (BadOrder n) = false
is_late (BadState word) = false
is_late (TooSmall need have) = false
is_late (Twins offset main back) = false
is_late OldRegion = true
is_late NewRegion = true
is_late (Malformed offset rule found) = true
is_late Device = false
is_late OutOfMemory = true

-- whether the device has been recovered, by the answer
abbrev pub is_recovered : {T : Type 0} → Result T Why → Bool
is_recovered (Ok opened) = true
is_recovered (Err why) = is_late why

-- No call follows one that failed: after `Device` the last one did, and a difference of the regions may be told where a later word could not be read. Else none failed.
abbrev pub HasOpeningFaults : {T : Type 0} → Result T Why → ℕ → ℕ → Bool → Type 0
HasOpeningFaults (Ok opened) before now failing = now ≡ before
HasOpeningFaults (Err NotAHeap) before now failing = now ≡ before
HasOpeningFaults (Err (BadVersion version)) before now failing = now ≡ before
HasOpeningFaults (Err (BadOrder n)) before now failing = now ≡ before
HasOpeningFaults (Err (BadState word)) before now failing = now ≡ before
HasOpeningFaults (Err (TooSmall need have)) before now failing = now ≡ before
HasOpeningFaults (Err (Twins offset main back)) before now failing = StopsAtFault before now failing
HasOpeningFaults (Err OldRegion) before now failing = now ≡ before
HasOpeningFaults (Err NewRegion) before now failing = now ≡ before
HasOpeningFaults (Err (Malformed offset rule found)) before now failing = now ≡ before
HasOpeningFaults (Err Device) before now failing = FailedLast before now failing
HasOpeningFaults (Err OutOfMemory) before now failing = now ≡ before

-- how many words are read of a heap of this order, by the word of the state: the header, the state again and the region that counts, and under IDLE the other one too
abbrev pub opening_reads : ℕ → ℕ → ℕ
opening_reads order state = 5 + (if state == 0 then 2 else 1) * region_len order

-- how many words are written: none under IDLE, else the state as it reads, the other region, and the state
abbrev pub opening_writes : ℕ → ℕ → ℕ
opening_writes order state = if state == 0 then 0 else region_len order + 2

-- how often it syncs
abbrev pub opening_syncs : ℕ → ℕ
opening_syncs state = if state == 0 then 1 else 4

-- The reads that an opening made, by its answer: a header is read up to the word that is refused, and regions that differ at most up to that place. Where the device failed some may be missing.
abbrev pub AreOpeningReads : {T : Type 0} → ℕ → ℕ → Result T Why → ℕ → ℕ → Type 0
AreOpeningReads order state (Ok opened) before now = Adds (opening_reads order state) before now
AreOpeningReads order state (Err OldRegion) before now = Adds (opening_reads order state) before now
AreOpeningReads order state (Err NewRegion) before now = Adds (opening_reads order state) before now
AreOpeningReads order state (Err (Malformed offset rule found)) before now = Adds (opening_reads order state) before now
AreOpeningReads order state (Err Device) before now = AtMost (opening_reads order state) before now
AreOpeningReads order state (Err OutOfMemory) before now = Adds (opening_reads order state) before now
AreOpeningReads order state (Err (Twins offset main back)) before now = AtMost (min (opening_reads order state) (5 + 2 * (offset + 64))) before now
AreOpeningReads order state (Err (TooSmall need have)) before now = Adds (if nat_lt have 8 then 0 else 3) before now
AreOpeningReads order state (Err NotAHeap) before now = Adds 1 before now
AreOpeningReads order state (Err (BadVersion version)) before now = Adds 2 before now
AreOpeningReads order state (Err (BadOrder n)) before now = Adds 3 before now
AreOpeningReads order state (Err (BadState word)) before now = Adds 4 before now

-- the writes, likewise, of which there are none where the header or the regions are refused
abbrev pub AreOpeningWrites : {T : Type 0} → ℕ → ℕ → Result T Why → ℕ → ℕ → Type 0
AreOpeningWrites order state (Ok opened) before now = Adds (opening_writes order state) before now
AreOpeningWrites order state (Err OldRegion) before now = Adds (opening_writes order state) before now
AreOpeningWrites order state (Err NewRegion) before now = Adds (opening_writes order state) before now
AreOpeningWrites order state (Err (Malformed offset rule found)) before now = Adds (opening_writes order state) before now
AreOpeningWrites order state (Err OutOfMemory) before now = Adds (opening_writes order state) before now
AreOpeningWrites order state (Err Device) before now = AtMost (opening_writes order state) before now
AreOpeningWrites order state (Err (Twins offset main back)) before now = now ≡ before
AreOpeningWrites order state (Err (TooSmall need have)) before now = now ≡ before
AreOpeningWrites order state (Err NotAHeap) before now = now ≡ before
AreOpeningWrites order state (Err (BadVersion version)) before now = now ≡ before
AreOpeningWrites order state (Err (BadOrder n)) before now = now ≡ before
AreOpeningWrites order state (Err (BadState word)) before now = now ≡ before

-- the syncs, likewise, of which there is one where the regions differ, and none where the header is refused
abbrev pub AreOpeningSyncs : {T : Type 0} → ℕ → Result T Why → ℕ → ℕ → Type 0
AreOpeningSyncs state (Ok opened) before now = Adds (opening_syncs state) before now
AreOpeningSyncs state (Err OldRegion) before now = Adds (opening_syncs state) before now
AreOpeningSyncs state (Err NewRegion) before now = Adds (opening_syncs state) before now
AreOpeningSyncs state (Err (Malformed offset rule found)) before now = Adds (opening_syncs state) before now
AreOpeningSyncs state (Err OutOfMemory) before now = Adds (opening_syncs state) before now
AreOpeningSyncs state (Err Device) before now = AtMost (opening_syncs state) before now
AreOpeningSyncs state (Err (Twins offset main back)) before now = Adds 1 before now
AreOpeningSyncs state (Err (TooSmall need have)) before now = now ≡ before
AreOpeningSyncs state (Err NotAHeap) before now = now ≡ before
AreOpeningSyncs state (Err (BadVersion version)) before now = now ≡ before
AreOpeningSyncs state (Err (BadOrder n)) before now = now ≡ before
AreOpeningSyncs state (Err (BadState word)) before now = now ≡ before

-- The calls that an opening of a device with these words made.
pub record OpeningCalls {D T : Type 0} (shown : ShownDevice D) (words : List ℕ) (old new : D) (result : Result T Why) : Type 0 where
  pub reads : AreOpeningReads (named_order words) (slice_index words STATE) result (shown.reads old) (shown.reads new)
  pub writes : AreOpeningWrites (named_order words) (slice_index words STATE) result (shown.writes old) (shown.writes new)
  pub syncs : AreOpeningSyncs (slice_index words STATE) result (shown.syncs old) (shown.syncs new)
