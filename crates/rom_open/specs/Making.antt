-- What the making of a heap answers and leaves.
use Rattle.std.specs.Prelude.{◌≡◌, ◌≢◌, ◌⊎◌, ℕ, Bool, List, slice_index, Result, Ok, Err}
use Rattle.rom_model.specs.Faults.{FailedLast}
use Rattle.rom_header.specs.Fresh.{IsNewHeap, HasTooFewFor}
use Rattle.rom_header.specs.Layout.{MAGIC}
use Rattle.rom_header.specs.declared.fresh.FormatRefused.{FormatRefused}
use Rattle.rom_header.specs.declared.fresh.FormatRefused.TheVariants as format
use Rattle.rom_header.specs.Held.{Holds}
use Rattle.rom_open.specs.declared.new_heap.NotFormatted.{NotFormatted}
use Rattle.rom_open.specs.declared.new_heap.NotFormatted.TheVariants.{Refused, OutOfMemory}

-- where there was memory, the answer of what was done on the device has P
abbrev pub IfMade : Result (Unit {0}) NotFormatted → (Result (Unit {0}) FormatRefused → Type 0) → Type 0
IfMade (Ok done) P = P (Ok done)
IfMade (Err (Refused refused)) P = P (Err refused)
IfMade (Err OutOfMemory) P = Unit {0}

-- A refusal for too few words names how many words a heap of this order needs, and how many the device has, which are fewer.
abbrev pub NamesTooFewFor : ℕ → ℕ → Result (Unit {0}) FormatRefused → Type 0
NamesTooFewFor order size (Ok done) = Unit {0}
NamesTooFewFor order size (Err refused) = HasTooFewFor order size refused

-- The words are a new heap of this order, whose regions stand for this state and the count 0.
abbrev pub IsNewWith : {S : Type 0} → (ℕ → List ℕ → S → ℕ → Type 0) → ℕ → S → List ℕ → Type 0
IsNewWith Contents order state words = (image : List ℕ) × Contents order image state 0 × IsNewHeap order image words

-- no heap stands there, or one of this order that holds this state and the count 0
abbrev pub NoneOrHolds : {S : Type 0} → (ℕ → List ℕ → S → ℕ → Type 0) → ℕ → S → List ℕ → Type 0
NoneOrHolds Contents order state words = (slice_index words 0 ≢ MAGIC) ⊎ Holds Contents order words state 0

-- Where no heap was made, the device failed where that is the reason, at its last call, and else it didn't.
abbrev pub HasFaultsUnmade : NotFormatted → ℕ → ℕ → Bool → Type 0
HasFaultsUnmade (Refused format.Device) before now failing = FailedLast before now failing
HasFaultsUnmade (Refused format.AlreadyAHeap) before now failing = now ≡ before
HasFaultsUnmade (Refused (format.TooSmall need have)) before now failing = now ≡ before
HasFaultsUnmade OutOfMemory before now failing = now ≡ before
