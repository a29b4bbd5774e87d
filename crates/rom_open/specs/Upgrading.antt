-- What an upgrade answers, and what a stop leaves of the device.
use Rattle.std.specs.Prelude.{◌≡◌, ◌⊎◌, ℕ, ◌*◌, false, List, Result, Ok, Err, IsTrue, slice_index}
use Rattle.rom_model.specs.Blocks.{region_len}
use Rattle.rom_model.specs.Earlier.{Earlier}
use Rattle.rom_model.specs.declared.unfit.Unfit.TheVariants as unfit
use Rattle.rom_device.specs.Device.{ShownDevice}
use Rattle.rom_header.specs.Headers.{IsIdle, state_word}
use Rattle.rom_header.specs.Held.{Holds}
use Rattle.rom_header.specs.Layout.{MAIN, STATE, main_of, back_of}
use Rattle.rom_header.specs.Regions.{IsHeap, SameRegion}
use Rattle.rom_header.specs.Writing.{StateOrWithin}
use Rattle.rom_header.specs.declared.header.State.TheVariants.{Copying}
use Rattle.rom_open.specs.Refusals.{IsRefusedBy, IsRejected, named_order}
use Rattle.rom_open.specs.declared.from_device.Refused.{Refused}
use Rattle.rom_open.specs.declared.reasons.Why.{Why}
use Rattle.rom_open.specs.declared.reasons.Why.TheVariants.{NotAHeap, BadVersion, BadOrder, BadState, TooSmall, Twins, OldRegion, NewRegion, Malformed, Device, OutOfMemory}

-- the device, which comes back whatever is answered
abbrev pub upgraded_device : {D : Type 0} → Result (D × ℕ) (Refused D) → D
upgraded_device (Ok done) = done.0
upgraded_device (Err refused) = refused.device

-- the refusal, if there is one
abbrev pub upgrade_refusal : {D : Type 0} → Result (D × ℕ) (Refused D) → Result (Unit {0}) Why
upgrade_refusal (Ok done) = Ok tt
upgrade_refusal (Err refused) = Err refused.why

-- Of an object whose regions had this version before:
module _ {S : Type 0} (earlier : Earlier S) where
  -- The refusal of the region that counts: it is of the next version already; or else not well-formed in the version before, and the word is named that stands where a rule is broken; or there was no memory to see or to make the new one in.
  abbrev pub IsUnfitOld : ℕ → List ℕ → Why → Type 0
  IsUnfitOld order region NewRegion = IsTrue (earlier.is_next region)
  IsUnfitOld order region (Malformed offset rule found) = (earlier.is_next region ≡ false) × IsRejected earlier.Contents earlier.Rejects order region (unfit.Malformed offset rule) × (found ≡ slice_index region offset)
  IsUnfitOld order region OutOfMemory = Unit {0}
  IsUnfitOld order region OldRegion = ⊥
  IsUnfitOld order region NotAHeap = ⊥
  IsUnfitOld order region (BadVersion version) = ⊥
  IsUnfitOld order region (BadOrder n) = ⊥
  IsUnfitOld order region (BadState word) = ⊥
  IsUnfitOld order region (TooSmall need have) = ⊥
  IsUnfitOld order region (Twins offset main back) = ⊥
  IsUnfitOld order region Device = ⊥

  -- The refusal of these words: the header and the regions are refused as an opening refuses them; or else they are accepted, and the region that counts is refused.
  abbrev pub IsUpgradeRefusal : List ℕ → Why → Type 0
  IsUpgradeRefusal words why = IsRefusedBy IsUnfitOld words why

  -- The answer to these words: the order that they name, where they hold a state and a count in the version before; or the first refusal whose test fails.
  abbrev pub IsUpgradeAnswer : {D : Type 0} → List ℕ → Result (D × ℕ) (Refused D) → Type 0
  IsUpgradeAnswer words (Ok done) = (done.1 ≡ named_order words) × ((state : S) × (count : ℕ) × Holds earlier.Contents done.1 words state count)
  IsUpgradeAnswer words (Err refused) = IsUpgradeRefusal words refused.why

-- And of what a region of this version stands for:
module _ {S : Type 0} (Contents : ℕ → List ℕ → S → ℕ → Type 0) (earlier : Earlier S) where
  -- The state and the count that the words held in the version before, an image of them holds in this one, in a heap of the same order.
  pub record Renewed (words image : List ℕ) : Type 0 where
    pub state : S
    pub count : ℕ
    pub was : Holds earlier.Contents (named_order words) words state count
    pub is : Holds Contents (named_order words) image state count

  -- What a stop leaves of these words at any moment of an upgrade: the same region counts, or a new one that stands in this version for what that one stood for.
  abbrev pub UpgradeImage : List ℕ → List ℕ → Type 0
  UpgradeImage words image = SameRegion words image ⊎ Renewed words image

  -- So they hold the same state and count, in the one version or in the other.
  abbrev pub HoldsEither : ℕ → List ℕ → S → ℕ → Type 0
  HoldsEither order image state count = Holds earlier.Contents order image state count ⊎ Holds Contents order image state count

-- What an upgrade makes of the words: only the state of the heap that they name and its two regions differ.
abbrev pub WithinNamed : List ℕ → List ℕ → Type 0
WithinNamed old new = StateOrWithin MAIN (2 * region_len (named_order old)) old new

-- A heap of this order on which no update is under way: both regions are the same, and the state is IDLE, or COPYING where the write of IDLE failed.
pub record IsWholeHeap (order : ℕ) (words : List ℕ) : Type 0 where
  pub heap : IsHeap order words
  pub state : IsIdle words ⊎ (slice_index words STATE ≡ state_word Copying)
  pub same : main_of order words ≡ back_of order words

-- An upgrade is done: the device holds in the next version the state and the count that it held in this one.
pub record HasUpgraded {S D : Type 0} (Contents : ℕ → List ℕ → S → ℕ → Type 0) (earlier : Earlier S) (shown : ShownDevice D) (was now : D) : Type 0 where
  -- It holds them now.
  pub holds : (s : S) (k : ℕ) → Holds earlier.Contents (named_order (shown.words was)) (shown.words was) s k → Holds Contents (named_order (shown.words was)) (shown.words now) s k
  -- So does each image that a stop leaves.
  pub images : (s : S) (k : ℕ) → Holds earlier.Contents (named_order (shown.words was)) (shown.words was) s k → (i : List ℕ) → shown.leaves now i → Holds Contents (named_order (shown.words was)) i s k
  -- Both regions are the same, and the heap's state is IDLE or COPYING.
  pub whole : IsWholeHeap (named_order (shown.words was)) (shown.words now)
