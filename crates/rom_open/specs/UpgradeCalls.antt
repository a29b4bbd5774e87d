-- How many calls of the device an upgrade makes, and which of them may fail.
use Rattle.std.specs.Prelude.{◌⊎◌, ℕ, ◌+◌, ◌*◌, ◌≤◌, Bool, List, slice_index, Result, Ok, Err, IsTrue}
use Rattle.rom_model.specs.Blocks.{IsOrder, region_len}
use Rattle.rom_model.specs.Faults.{Adds, AtMost, StopsAtFault}
use Rattle.rom_device.specs.Device.{ShownDevice}
use Rattle.rom_header.specs.Layout.{STATE, words_needed}
use Rattle.rom_recover.specs.Calls.{CallsWithin}
use Rattle.rom_open.specs.Calls.{AreOpeningReads, HasOpeningFaults, opening_reads, opening_syncs, opening_writes}
use Rattle.rom_open.specs.Calls as opening
use Rattle.rom_open.specs.Refusals.{named_order}
use Rattle.rom_open.specs.declared.reasons.Why.{Why}
use Rattle.rom_open.specs.declared.reasons.Why.TheVariants.{NotAHeap, BadVersion, BadOrder, BadState, TooSmall, Twins, OldRegion, NewRegion, Malformed, Device, OutOfMemory}

-- how many words the batch writes that replaces both regions: each of their words, and the state three times
abbrev pub replacement_writes : ℕ → ℕ
replacement_writes order = 2 * region_len order + 3

-- how often it syncs; it reads nothing
abbrev pub replacement_syncs : ℕ
replacement_syncs = 4

-- No call follows one that failed: after `Ok` none failed, or the last one, which wrote IDLE; and after a refusal as in an opening.
abbrev pub HasUpgradeFaults : {T : Type 0} → Result T Why → ℕ → ℕ → Bool → Type 0
HasUpgradeFaults (Ok done) before now failing = StopsAtFault before now failing
HasUpgradeFaults (Err why) before now failing = HasOpeningFaults {T = Unit {0}} (Err why) before now failing

-- The writes that an upgrade made, by its answer: those of an opening, and after `Ok` those of the batch. Where the device failed some may be missing.
abbrev pub AreUpgradeWrites : {T : Type 0} → ℕ → ℕ → Result T Why → ℕ → ℕ → Type 0
AreUpgradeWrites order state (Ok done) before now = Adds (opening_writes order state + replacement_writes order) before now
AreUpgradeWrites order state (Err Device) before now = AtMost (opening_writes order state + replacement_writes order) before now
AreUpgradeWrites order state (Err OldRegion) before now = opening.AreOpeningWrites {T = Unit {0}} order state (Err OldRegion) before now
AreUpgradeWrites order state (Err NewRegion) before now = opening.AreOpeningWrites {T = Unit {0}} order state (Err NewRegion) before now
AreUpgradeWrites order state (Err (Malformed offset rule found)) before now = opening.AreOpeningWrites {T = Unit {0}} order state (Err (Malformed offset rule found)) before now
AreUpgradeWrites order state (Err OutOfMemory) before now = opening.AreOpeningWrites {T = Unit {0}} order state (Err OutOfMemory) before now
AreUpgradeWrites order state (Err (Twins offset main back)) before now = opening.AreOpeningWrites {T = Unit {0}} order state (Err (Twins offset main back)) before now
AreUpgradeWrites order state (Err (TooSmall need have)) before now = opening.AreOpeningWrites {T = Unit {0}} order state (Err (TooSmall need have)) before now
AreUpgradeWrites order state (Err NotAHeap) before now = opening.AreOpeningWrites {T = Unit {0}} order state (Err NotAHeap) before now
AreUpgradeWrites order state (Err (BadVersion version)) before now = opening.AreOpeningWrites {T = Unit {0}} order state (Err (BadVersion version)) before now
AreUpgradeWrites order state (Err (BadOrder n)) before now = opening.AreOpeningWrites {T = Unit {0}} order state (Err (BadOrder n)) before now
AreUpgradeWrites order state (Err (BadState word)) before now = opening.AreOpeningWrites {T = Unit {0}} order state (Err (BadState word)) before now

-- the syncs, likewise
abbrev pub AreUpgradeSyncs : {T : Type 0} → ℕ → Result T Why → ℕ → ℕ → Type 0
AreUpgradeSyncs state (Ok done) before now = Adds (opening_syncs state + replacement_syncs) before now
AreUpgradeSyncs state (Err Device) before now = AtMost (opening_syncs state + replacement_syncs) before now
AreUpgradeSyncs state (Err OldRegion) before now = opening.AreOpeningSyncs {T = Unit {0}} state (Err OldRegion) before now
AreUpgradeSyncs state (Err NewRegion) before now = opening.AreOpeningSyncs {T = Unit {0}} state (Err NewRegion) before now
AreUpgradeSyncs state (Err (Malformed offset rule found)) before now = opening.AreOpeningSyncs {T = Unit {0}} state (Err (Malformed offset rule found)) before now
AreUpgradeSyncs state (Err OutOfMemory) before now = opening.AreOpeningSyncs {T = Unit {0}} state (Err OutOfMemory) before now
AreUpgradeSyncs state (Err (Twins offset main back)) before now = opening.AreOpeningSyncs {T = Unit {0}} state (Err (Twins offset main back)) before now
AreUpgradeSyncs state (Err (TooSmall need have)) before now = opening.AreOpeningSyncs {T = Unit {0}} state (Err (TooSmall need have)) before now
AreUpgradeSyncs state (Err NotAHeap) before now = opening.AreOpeningSyncs {T = Unit {0}} state (Err NotAHeap) before now
AreUpgradeSyncs state (Err (BadVersion version)) before now = opening.AreOpeningSyncs {T = Unit {0}} state (Err (BadVersion version)) before now
AreUpgradeSyncs state (Err (BadOrder n)) before now = opening.AreOpeningSyncs {T = Unit {0}} state (Err (BadOrder n)) before now
AreUpgradeSyncs state (Err (BadState word)) before now = opening.AreOpeningSyncs {T = Unit {0}} state (Err (BadState word)) before now

-- The calls that an upgrade of a device with these words made. Its reads are those of an opening.
pub record UpgradeCalls {D T : Type 0} (shown : ShownDevice D) (words : List ℕ) (old new : D) (result : Result T Why) : Type 0 where
  pub reads : AreOpeningReads (named_order words) (slice_index words STATE) result (shown.reads old) (shown.reads new)
  pub writes : AreUpgradeWrites (named_order words) (slice_index words STATE) result (shown.writes old) (shown.writes new)
  pub syncs : AreUpgradeSyncs (slice_index words STATE) result (shown.syncs old) (shown.syncs new)

module _ {D : Type 0} (shown : ShownDevice D) where
  -- No more than the words before it ask for, of one upgrade.
  abbrev pub CallsOfUpgrade : D → D → Type 0
  CallsOfUpgrade was now = let words = shown.words was in let state = slice_index words STATE in let order = named_order words in
      IsTrue shown.tells_words → CallsWithin shown (opening_reads order state) (opening_writes order state + replacement_writes order) (opening_syncs state + replacement_syncs) was now

  -- No more than one upgrade of a heap of this order asks for, whatever its words are: one opening, and the batch.
  abbrev pub UpgradeOfOrder : ℕ → D → D → Type 0
  UpgradeOfOrder order was now = CallsWithin shown (5 + 2 * region_len order) (region_len order + 2 + replacement_writes order) (4 + replacement_syncs) was now

  -- So of a heap of some order that there is, which the device has room for; or no more than the reads of a header.
  abbrev pub UpgradeOfSomeOrder : D → D → Type 0
  UpgradeOfSomeOrder was now = CallsWithin shown 4 0 0 was now ⊎ ((order : ℕ) × IsOrder order × (words_needed order ≤ shown.size was) × UpgradeOfOrder order was now)

  -- The calls of one upgrade at most, by the words where these are told and by the order whatever they are, and none after one that failed.
  pub record WithinUpgrade (was now : D) : Type 0 where
    pub calls : CallsOfUpgrade was now
    pub by_order : UpgradeOfSomeOrder was now
    pub stops : StopsAtFault (shown.faults was) (shown.faults now) (shown.failing now)
