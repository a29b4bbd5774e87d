-- How a command ends where nothing fails, when its heap is refused, and how many lines of a caller tell of a fault.
use Rattle.std.specs.Prelude.{◌≡◌, ◌≢◌, ◌⊎◌, ℕ, Bool, true, false, IsTrue, List, Option, Some, IfSome, IsSomeAnd, Ok, Err, slice_get}
use Rattle.std.specs.List.{AllByRecursion, list_any}
use Rattle.rom_model.specs.Earlier.{Earlier}
use Rattle.rom_model.specs.Faulted.{RoseBy, faulted_lines}
use Rattle.rom_model.specs.Faults.{Rose}
use Rattle.rom_model.specs.Lawful.{IsLawful}
use Rattle.rom_model.specs.Machine.{Machine}
use Rattle.rom_model.specs.Story.{Story}
use Rattle.rom_model.specs.declared.line.Step.{Step}
use Rattle.rom_model.specs.declared.line.Step.TheVariants as line
use Rattle.rom_model.specs.declared.line.LineResult.{LineResult}
use Rattle.rom_model.specs.declared.unfit.Unfit.{Unfit}
use Rattle.rom_device.specs.Device.{ShownDevice}
use Rattle.rom_header.specs.Fresh.{IsFormatAnswer}
use Rattle.rom_header.specs.Held.{Holds}
use Rattle.rom_header.specs.declared.fresh.FormatRefused.{FormatRefused}
use Rattle.rom_header.specs.declared.fresh.FormatRefused.TheVariants as format
use Rattle.rom_combine.specs.Costs.{IsUnfailed}
use Rattle.rom_text.specs.Runs.{SourceTooLong}
use Rattle.rom_text.specs.Streams.{ShownSink, ShownSource}
use Rattle.rom_open.specs.Refusals.{IsRefusal}
use Rattle.rom_open.specs.declared.reasons.Why.{Why}
use Rattle.rom_open.specs.Upgrading.{IsUpgradeRefusal}
use Rattle.rom_run.specs.Refusing.{HasName}
use Rattle.rom_run.specs.Use.{Use, heap_of}
use Rattle.rom_run.specs.declared.heap.Heap.{Heap}
use Rattle.rom_run.specs.declared.heap.Heap.TheVariants.{New, Standing, Upgraded}

module _ {S : Type 0} (Contents : ℕ → List ℕ → S → ℕ → Type 0) where
  -- the words hold some state
  abbrev pub HoldsSome : List ℕ → Type 0
  HoldsSome words = (order : ℕ) × (state : S) × (count : ℕ) × Holds Contents order words state count

module _ {S : Type 0} (Contents : ℕ → List ℕ → S → ℕ → Type 0) (earlier : Earlier S) where
  -- A heap that is to be made does not stand, and there are words enough for it; one that is to be opened stands; and so does one that is to be upgraded, in the version before.
  abbrev pub IsAtHand : Heap → List ℕ → Type 0
  IsAtHand (New order) words = IsFormatAnswer order words (Ok tt)
  IsAtHand Standing words = HoldsSome Contents words
  IsAtHand Upgraded words = HoldsSome earlier.Contents words

  -- there is a command, and its heap is at hand in these words of the device
  abbrev pub CanRun : Option Use → List ℕ → Type 0
  CanRun asked words = IsSomeAnd asked (λ does. IsAtHand (heap_of does) words)

module _ {S : Type 0} (Contents : ℕ → List ℕ → S → ℕ → Type 0) (Rejects : ℕ → List ℕ → Unfit → Type 0) (earlier : Earlier S) where
  -- For a reason that has a name, which no fault and no want of memory is, a heap isn't made in these words, or the one that is to stand in them isn't opened, or isn't upgraded.
  abbrev pub IsRefusedByName : Heap → List ℕ → Type 0
  IsRefusedByName (New order) words = (why : FormatRefused) × (why ≢ format.Device) × IsFormatAnswer order words (Err why)
  IsRefusedByName Standing words = (why : Why) × HasName why × IsRefusal Contents Rejects words why
  IsRefusedByName Upgraded words = (why : Why) × HasName why × IsUpgradeRefusal earlier words why

  module _ {D : Type 0} (shown : ShownDevice D) (was now : D) where
    -- With 3 the heap is refused by name; and where it is, and no call of the device fails, it is 3, unless a script can't be read or is too long (4, 8), or memory is short (6).
    pub record RefusesExactly (heap : Heap) (status : ℕ) : Type 0 where
      pub only : status ≡ 3 → IsRefusedByName heap (shown.words was)
      pub always : IsRefusedByName heap (shown.words was) → IsUnfailed shown was now → (status ≡ 3) ⊎ (status ≡ 4) ⊎ (status ≡ 6) ⊎ (status ≡ 8)

    -- so of each command, where the device tells its words
    abbrev pub IsRefusedExactly : Option Use → ℕ → Type 0
    IsRefusedExactly asked status = IsTrue shown.tells_words → IfSome asked (λ does. RefusesExactly (heap_of does) status)

-- the line is none
abbrev pub is_unread_line : {C Q : Type 0} → Step C Q → Bool
is_unread_line line.Unread = true
is_unread_line (line.Update call) = false
is_unread_line (line.Ask query) = false

-- a line of the scripts that are run is none
abbrev pub HasUnreadLine : {C Q X : Type 0} → (List X → List (List (Step C Q)) → Type 0) → List X → Type 0
HasUnreadLine {C} {Q} AreRun sources = (scripts : List (List (Step C Q))) × AreRun sources scripts × IsTrue (list_any (λ lines. list_any is_unread_line lines) scripts)

module _ {D X K : Type 0} (shown : ShownDevice D) (source : ShownSource X) (sink : ShownSink K) (was now : D) (before after : List X) (old new : K) where
  -- No count of faults rose, nor did one stand at its last value: the device's, the sink's, and that of each source.
  pub record NoneFailed : Type 0 where
    pub of_device : Rose (shown.faults was) (shown.faults now) → ⊥
    pub of_sink : Rose (sink.faults old) (sink.faults new) → ⊥
    pub of_sources : (i : ℕ) (one other : X) → slice_get before i ≡ Some one → slice_get after i ≡ Some other → Rose (source.faults one) (source.faults other) → ⊥

  module _ {C Q : Type 0} (AreRun : List X → List (List (Step C Q)) → Type 0) where
    -- All is done, or a line is none, or a script is too long, or there was no memory.
    abbrev pub EndsWell : ℕ → Type 0
    EndsWell status = (status ≡ 0) ⊎ ((status ≡ 1) × HasUnreadLine AreRun before) ⊎ ((status ≡ 8) × SourceTooLong source sink before after old new) ⊎ (status ≡ 6)

    -- Where the device tells its words, the command can begin in them, and no count of faults rises, it ends well.
    abbrev pub IsComplete : {S : Type 0} → (ℕ → List ℕ → S → ℕ → Type 0) → Earlier S → Option Use → ℕ → Type 0
    IsComplete Contents earlier asked status = IsTrue shown.tells_words → CanRun Contents earlier asked (shown.words was) → NoneFailed → EndsWell status

module _ {S C Q R A : Type 0} (machine : Machine S C Q R A) {D : Type 0} (shown : ShownDevice D) where
  -- Of lawful results of the story, whatever they are, each caller's lines that tell of a fault are at most as many as the device's count of faults rose, short of its last value.
  abbrev pub HasFewFaults : D → D → Story S → Type 0
  HasFewFaults was now story = (scripts : List (List (Step C Q))) (results : List (List (LineResult R A))) → IsLawful machine story scripts results →
      AllByRecursion (λ rs. RoseBy (faulted_lines rs) (shown.faults was) (shown.faults now)) results
