-- What is not taken of a heap that a device holds, and why.
use Rattle.std.specs.Prelude.{◌≡◌, ◌≢◌, ◌⊎◌, ℕ, Bool, List, Result, Ok, Err, slice_index}
use Rattle.rom_model.specs.declared.unfit.Unfit.{Unfit}
use Rattle.rom_header.specs.Layout.{STATE, back_of, main_of}
use Rattle.rom_header.specs.Regions.{IsHeap}
use Rattle.rom_open.specs.Calls.{HasOpeningFaults}
use Rattle.rom_open.specs.Refusals.{IsRefusal}
use Rattle.rom_open.specs.declared.reasons.Why.{Why}
use Rattle.rom_open.specs.declared.reasons.Why.TheVariants.{Device, OutOfMemory}
use Rattle.rom_copy.specs.declared.untaken.Untaken.{Untaken}
use Rattle.rom_copy.specs.declared.untaken.Untaken.TheVariants.{Refused, Unfinished}

-- The words are a heap whose state is COPYING, and main is not what back is.
pub record IsUnfinished (words : List ℕ) : Type 0 where
  pub order : ℕ
  pub heap : IsHeap order words
  pub copying : slice_index words STATE ≡ 2
  pub differ : main_of order words ≢ back_of order words

-- why these words are not taken: as an opening refuses them, or since a batch is not finished
abbrev pub IsUntaken : {S : Type 0} → (ℕ → List ℕ → S → ℕ → Type 0) → (ℕ → List ℕ → Unfit → Type 0) → List ℕ → Untaken → Type 0
IsUntaken Contents Rejects words (Refused why) = IsRefusal Contents Rejects words why
IsUntaken Contents Rejects words Unfinished = IsUnfinished words

-- a region is not read: the device failed, or there was no memory
abbrev pub IsUnread : Why → Type 0
IsUnread why = (why ≡ Device) ⊎ (why ≡ OutOfMemory)

-- No call follows one that failed: of a refusal as an opening tells, and else none failed.
abbrev pub HasTakingFaults : {T : Type 0} → Result T Untaken → ℕ → ℕ → Bool → Type 0
HasTakingFaults (Ok taken) before now failing = now ≡ before
HasTakingFaults (Err Unfinished) before now failing = now ≡ before
HasTakingFaults {T} (Err (Refused why)) before now failing = HasOpeningFaults {T = T} (Err why) before now failing
