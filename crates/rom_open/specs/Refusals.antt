-- Which words are refused, and why.
use Rattle.std.specs.Prelude.{◌≡◌, ◌⊎◌, ℕ, List, slice_index, Err}
use Rattle.rom_model.specs.declared.unfit.Unfit.{Unfit}
use Rattle.rom_model.specs.declared.unfit.Unfit.TheVariants as unfit
use Rattle.rom_header.specs.Headers.{IsHeaderAnswer, HasTooFew}
use Rattle.rom_header.specs.Regions.{IsHeap, IsCurrentRegion}
use Rattle.rom_header.specs.declared.header.HeaderRefused.{HeaderRefused}
use Rattle.rom_header.specs.declared.header.HeaderRefused.TheVariants as header
use Rattle.rom_recover.specs.Recovered.{DifferAt}
use Rattle.rom_recover.specs.declared.recovery.RecoverRefused.{RecoverRefused}
use Rattle.rom_recover.specs.declared.recovery.RecoverRefused.TheVariants as recovery
use Rattle.rom_open.specs.declared.reasons.Why.{Why}
use Rattle.rom_open.specs.declared.reasons.Why.TheVariants.{NotAHeap, BadVersion, BadOrder, BadState, TooSmall, Twins, OldRegion, NewRegion, Malformed, Device, OutOfMemory}

-- the refusal of a header, as a reason why a device is not opened
abbrev pub of_header : HeaderRefused → Why
of_header (header.TooSmall need have) = TooSmall need have
of_header header.NotAHeap = NotAHeap
of_header (header.BadVersion version) = BadVersion version
of_header (header.BadOrder order) = BadOrder order
of_header (header.BadState state) = BadState state
of_header header.Device = Device

-- that of a recovery, likewise
abbrev pub of_recovery : RecoverRefused → Why
of_recovery (recovery.Twins offset main back) = Twins offset main back
of_recovery recovery.Device = Device

-- the order that the header names
abbrev pub named_order : List ℕ → ℕ
named_order words = slice_index words 2

-- Before the region that counts is looked at, the words are refused by the header, or else by the first difference of the regions under IDLE. `Device` may stand in place of either.
abbrev pub IsUnready : List ℕ → Why → Type 0
IsUnready words NotAHeap = IsHeaderAnswer words (Err header.NotAHeap)
IsUnready words (BadVersion version) = IsHeaderAnswer words (Err (header.BadVersion version))
IsUnready words (BadOrder order) = IsHeaderAnswer words (Err (header.BadOrder order))
IsUnready words (BadState state) = IsHeaderAnswer words (Err (header.BadState state))
IsUnready words (TooSmall need have) = IsHeaderAnswer words (Err (header.TooSmall need have))
IsUnready words (Twins offset main back) = IsHeap (named_order words) words × DifferAt (named_order words) words offset main back
IsUnready words OldRegion = ⊥
IsUnready words NewRegion = ⊥
IsUnready words (Malformed offset rule found) = ⊥
IsUnready words Device = Unit {0}
IsUnready words OutOfMemory = ⊥

-- A refusal for too few words names how many words are needed, and how many the device has, which are fewer.
abbrev pub NamesTooFew : ℕ → Why → Type 0
NamesTooFew size (TooSmall need have) = HasTooFew size (header.TooSmall need have)
NamesTooFew size NotAHeap = Unit {0}
NamesTooFew size (BadVersion version) = Unit {0}
NamesTooFew size (BadOrder n) = Unit {0}
NamesTooFew size (BadState word) = Unit {0}
NamesTooFew size (Twins offset main back) = Unit {0}
NamesTooFew size OldRegion = Unit {0}
NamesTooFew size NewRegion = Unit {0}
NamesTooFew size (Malformed offset rule found) = Unit {0}
NamesTooFew size Device = Unit {0}
NamesTooFew size OutOfMemory = Unit {0}

-- The words of a region are not well-formed, and this is the one reason of them.
pub record IsRejected {S : Type 0} (Contents : ℕ → List ℕ → S → ℕ → Type 0) (Rejects : ℕ → List ℕ → Unfit → Type 0) (order : ℕ) (region : List ℕ) (reason : Unfit) : Type 0 where
  pub is : Rejects order region reason
  pub only : (other : Unfit) → Rejects order region other → other ≡ reason
  pub none : (state : S) (count : ℕ) → Contents order region state count → ⊥

-- The refusal of a region: it is of the version before; or else not well-formed, and the word is named that stands where a rule is broken; or there was no memory to see.
abbrev pub IsUnfit : {S : Type 0} → (ℕ → List ℕ → S → ℕ → Type 0) → (ℕ → List ℕ → Unfit → Type 0) → ℕ → List ℕ → Why → Type 0
IsUnfit Contents Rejects order region (Malformed offset rule found) = IsRejected Contents Rejects order region (unfit.Malformed offset rule) × (found ≡ slice_index region offset)
IsUnfit Contents Rejects order region OldRegion = IsRejected Contents Rejects order region unfit.Old
IsUnfit Contents Rejects order region OutOfMemory = Unit {0}
IsUnfit Contents Rejects order region NewRegion = ⊥
IsUnfit Contents Rejects order region NotAHeap = ⊥
IsUnfit Contents Rejects order region (BadVersion version) = ⊥
IsUnfit Contents Rejects order region (BadOrder n) = ⊥
IsUnfit Contents Rejects order region (BadState word) = ⊥
IsUnfit Contents Rejects order region (TooSmall need have) = ⊥
IsUnfit Contents Rejects order region (Twins offset main back) = ⊥
IsUnfit Contents Rejects order region Device = ⊥

-- The refusal of these words, of which `Unfit` says why the region that counts is refused in a heap of this order. Header and regions are refused; or else they are accepted, and that region is refused. `Device` may stand in place of either.
abbrev pub IsRefusedBy : (ℕ → List ℕ → Why → Type 0) → List ℕ → Why → Type 0
IsRefusedBy Unfit words why =
    IsUnready words why ⊎ ((region : List ℕ) × IsCurrentRegion (named_order words) words region × Unfit (named_order words) region why)

-- The region itself is not refused: there was no memory for it.
abbrev pub IsUnkept : ℕ → List ℕ → Why → Type 0
IsUnkept order region why = why ≡ OutOfMemory

-- The refusal of these words, where the object says what a region stands for, and why one stands for nothing.
abbrev pub IsRefusal : {S : Type 0} → (ℕ → List ℕ → S → ℕ → Type 0) → (ℕ → List ℕ → Unfit → Type 0) → List ℕ → Why → Type 0
IsRefusal Contents Rejects words why = IsRefusedBy (IsUnfit Contents Rejects) words why
