-- What becomes of the device that a command works on, and why there is no heap to work on.
use Rattle.std.specs.Prelude.{◌≡◌, ◌≢◌, ◌≤◌, ℕ, List, ◌++◌, IsTrue, codes, decimal, Option, IfSome, Ok, Err}
use Rattle.rom_model.specs.Earlier.{Earlier}
use Rattle.rom_model.specs.Faults.{FailedLast}
use Rattle.rom_model.specs.Machine.{Machine, on_words}
use Rattle.rom_model.specs.Passes.{faults_after}
use Rattle.rom_model.specs.Space.{ChangesOnly}
use Rattle.rom_model.specs.Story.{Story}
use Rattle.rom_model.specs.declared.unfit.Unfit.{Unfit}
use Rattle.rom_device.specs.Device.{ShownDevice, Does, Leaves, Stays}
use Rattle.rom_header.specs.Fresh.{IsFormatAnswer, HasTooFewFor, IsFormatRefused}
use Rattle.rom_header.specs.Headers.{HasTooFew}
use Rattle.rom_header.specs.Held.{Holds}
use Rattle.rom_header.specs.Layout.{words_needed}
use Rattle.rom_header.specs.declared.fresh.FormatRefused.{FormatRefused}
use Rattle.rom_header.specs.declared.fresh.FormatRefused.TheVariants as format
use Rattle.rom_header.specs.declared.header.HeaderRefused.TheVariants as header
use Rattle.rom_recover.specs.Recovered.{Mended}
use Rattle.rom_combine.specs.Costs.{WithinHeap}
use Rattle.rom_combine.specs.Session.{ImageNow, SessionImage}
use Rattle.rom_text.specs.Runs.{IsLineWrittenOrCutShort}
use Rattle.rom_text.specs.Streams.{ShownSink}
use Rattle.rom_open.specs.Calls.{OpeningCalls}
use Rattle.rom_open.specs.Making.{NoneOrHolds}
use Rattle.rom_open.specs.Refusals.{IsRefusal, named_order}
use Rattle.rom_open.specs.Within.{HasMadeHeap, HasOpened, MakesNone, WithinMaking, WithinOpening}
use Rattle.rom_store.specs.Traced.{WentThrough}
use Rattle.rom_open.specs.declared.new_heap.NotFormatted.TheVariants.{Refused}
use Rattle.rom_open.specs.declared.reasons.Why.{Why}
use Rattle.rom_open.specs.declared.reasons.Why.TheVariants.{TooSmall, Twins}
use Rattle.rom_open.specs.UpgradeCalls.{WithinUpgrade}
use Rattle.rom_open.specs.Upgrading.{IsUpgradeRefusal, IsWholeHeap, UpgradeImage}
use Rattle.rom_run.specs.Refusing.{HasName, refusal_line, unmade_line}
use Rattle.rom_run.specs.declared.heap.Heap.{Heap}
use Rattle.rom_run.specs.declared.heap.Heap.TheVariants.{New, Standing, Upgraded}

-- Which words, where they are told, may differ afterwards: those of the heap that is made, or the state and the two regions of the one that the words name, which is opened or upgraded. No word behind is touched.
abbrev pub AreWordsKept : Heap → List ℕ → List ℕ → Type 0
AreWordsKept (New order) was now = ChangesOnly 0 (words_needed order) was now
AreWordsKept Standing was now = WithinHeap (named_order was) was now
AreWordsKept Upgraded was now = WithinHeap (named_order was) was now

module _ {D : Type 0} (shown : ShownDevice D) where
  -- The device is called no more often than to make a heap of that order, to open the one that stands, or to upgrade it.
  abbrev pub IsCalledWithin : Heap → D → D → Type 0
  IsCalledWithin (New order) was now = WithinMaking shown order was now
  IsCalledWithin Standing was now = WithinOpening shown was now
  IsCalledWithin Upgraded was now = WithinUpgrade shown was now

-- Of an object:
module _ {S C Q R A : Type 0} (machine : Machine S C Q R A) (Contents : ℕ → List ℕ → S → ℕ → Type 0) where
  -- The story begins with the empty state on a new heap, where none stood and there are words enough, as far as these are told; or with what the words hold. None begins on a heap that is upgraded.
  abbrev pub IsStoryOpening : Heap → Option (List ℕ) → Story S → Type 0
  IsStoryOpening (New order) words story = IfSome words (λ told. IsFormatAnswer order told (Ok tt)) × (story.order ≡ order) × (story.opening ≡ machine.empty) × (story.opening_count ≡ 0)
  IsStoryOpening Standing words story = IfSome words (λ told. Holds Contents story.order told story.opening story.opening_count)
  IsStoryOpening Upgraded words story = ⊥

  module _ {D : Type 0} (shown : ShownDevice D) where
    -- What a stop at any moment may leave, where there is no session: a heap that is made isn't there, or holds the empty state and the count 0; in one that stands the same region counts as before; and one that is upgraded holds what it held, in the version before or in this one.
    abbrev pub IsLeft : Earlier S → Heap → D → D → Type 0
    IsLeft earlier (New order) was now = Leaves shown (NoneOrHolds Contents order machine.empty) was now
    IsLeft earlier Standing was now = Leaves shown (Mended (named_order (shown.words was)) (shown.words was)) was now
    IsLeft earlier Upgraded was now = Leaves shown (UpgradeImage Contents earlier (shown.words was)) was now

    -- Where there is a session on a heap of this order, the device before its first pass: the heap was made, or opened, once, and no call failed. On a heap that is upgraded there is no session: an upgrade is no update, and leaves the count as it is.
    abbrev pub HasBegun : Heap → ℕ → D → D → Type 0
    HasBegun (New made) order was first = HasMadeHeap shown Contents made machine.empty was first
    HasBegun Standing order was first = HasOpened shown order was first
    HasBegun Upgraded order was first = ⊥

    -- No call of the opening failed, or of the making. The passes counted the device's faults from there on, up to now at most; and the device went through them, one after another, from where the heap was opened or made, once, up to now.
    pub record CountsFaults (heap : Heap) (was now : D) (story : Story S) : Type 0 where
      pub before : story.opening_faults ≡ shown.faults was
      pub after : faults_after story.opening_faults story.records ≤ shown.faults now
      pub went : WentThrough shown Contents (on_words machine) story (HasBegun heap story.order was) now

    -- What a stop at any moment may leave, where there is a session: what could be left before, or an image of the session; on a heap that was made, so since it stood, which was before the first pass.
    abbrev pub IsLeftBySession : Heap → D → D → D → Story S → Type 0
    IsLeftBySession (New order) was first now story = Leaves shown (SessionImage Contents (on_words machine) story) first now
    IsLeftBySession Standing was first now story = Leaves shown (SessionImage Contents (on_words machine) story) was now
    IsLeftBySession Upgraded was first now story = ⊥

    -- What a stop at the end may leave: the history, or that and the batch in doubt.
    abbrev pub IsHeldNow : D → Story S → Type 0
    IsHeldNow now story = (i : List ℕ) → shown.leaves now i → ImageNow Contents (on_words machine) story i

module _ {D : Type 0} (shown : ShownDevice D) where
  -- Nothing changes where a heap that is to be made stands already, or there are too few words for it.
  abbrev pub IsSpared : Heap → D → D → Type 0
  IsSpared (New order) was now = IsTrue shown.tells_words → IsFormatRefused order (shown.words was) → Does shown Stays was now
  IsSpared Standing was now = Unit {0}
  IsSpared Upgraded was now = Unit {0}

  -- Want of memory to make a heap comes before any call of the device, and to upgrade one before any but those of an opening.
  abbrev pub IsUncalled : Heap → D → D → Type 0
  IsUncalled (New order) was now = now ≡ was
  IsUncalled Standing was now = Unit {0}
  IsUncalled Upgraded was now = WithinOpening shown was now

module _ {D K : Type 0} (shown : ShownDevice D) (sink : ShownSink K) where
  -- The heap isn't made, for this reason: the words and the length are refused so, the device was called just as often as it takes to find it, and the line names it.
  pub record IsUnmade (order : ℕ) (was now : D) (old new : K) : Type 0 where
    pub why : FormatRefused
    pub by_name : why ≢ format.Device
    pub refused : IsTrue shown.tells_words → IsFormatAnswer order (shown.words was) (Err why)
    pub sizes : HasTooFewFor order (shown.size was) why
    pub calls : MakesNone shown order (Refused why) was now
    pub told : IsLineWrittenOrCutShort sink old new (unmade_line (Refused why))

  -- A heap of this order is made where none stood and there are words enough, and no call failed: the device holds the empty state and the count 0, and so does whatever a stop leaves of it.
  pub record IsMade {S : Type 0} (Contents : ℕ → List ℕ → S → ℕ → Type 0) (empty : S) (order : ℕ) (was now : D) (old new : K) : Type 0 where
    pub accepted : IsTrue shown.tells_words → IsFormatAnswer order (shown.words was) (Ok tt)
    pub fits : words_needed order ≤ shown.size was
    pub held : IsTrue shown.tells_words → Holds Contents order (shown.words now) empty 0
    pub images : IsTrue shown.tells_images → (i : List ℕ) → shown.leaves now i → Holds Contents order i empty 0
    pub faults : shown.faults now ≡ shown.faults was
    pub told : IsLineWrittenOrCutShort sink old new (codes "formatted order " ++ decimal order)

  -- A heap of the version before, of this order, is made one of this: the device held some state and some count in that version, and holds the same in this one, in both regions, and so does whatever a stop leaves of it now.
  pub record IsUpgraded {S : Type 0} (Contents : ℕ → List ℕ → S → ℕ → Type 0) (earlier : Earlier S) (was now : D) (old new : K) : Type 0 where
    pub order : ℕ
    pub fits : words_needed order ≤ shown.size was
    pub held : IsTrue shown.tells_words → (state : S) × (count : ℕ) × Holds earlier.Contents order (shown.words was) state count
    pub holds : IsTrue shown.tells_images → (state : S) (count : ℕ) → Holds earlier.Contents order (shown.words was) state count → Holds Contents order (shown.words now) state count
    pub images : IsTrue shown.tells_images → (state : S) (count : ℕ) → Holds earlier.Contents order (shown.words was) state count → (i : List ℕ) → shown.leaves now i → Holds Contents order i state count
    pub whole : IsTrue shown.tells_images → IsWholeHeap order (shown.words now)
    pub told : IsLineWrittenOrCutShort sink old new (codes "upgraded order " ++ decimal order)

  -- Of the device's calls the last one failed, and no other, and the line says so.
  pub record HasDeviceFailed (was now : D) (old new : K) : Type 0 where
    pub failed : FailedLast (shown.faults was) (shown.faults now) (shown.failing now)
    pub told : IsLineWrittenOrCutShort sink old new (codes "device failed")

  -- The heap of an object of this kind isn't opened, to be worked on or to be upgraded, likewise: it is as an opening that is refused so leaves it, with no call more. No call failed; or where the regions differ, the last one may have.
  pub record IsUnopened (kind : ℕ) (Refuses : List ℕ → Why → Type 0) (was now : D) (old new : K) : Type 0 where
    pub why : Why
    pub by_name : HasName why
    pub refused : IsTrue shown.tells_words → Refuses (shown.words was) why
    pub sizes : (need have : ℕ) → why ≡ TooSmall need have → HasTooFew (shown.size was) (header.TooSmall need have)
    pub calls : IsTrue shown.tells_words → OpeningCalls {T = Unit {0}} shown (shown.words was) was now (Err why)
    pub within : WithinOpening shown was now
    pub images : IsTrue shown.tells_images → Leaves shown (Mended (named_order (shown.words was)) (shown.words was)) was now
    pub unfailed : ((offset main back : ℕ) → why ≢ Twins offset main back) → shown.faults now ≡ shown.faults was
    pub told : IsLineWrittenOrCutShort sink old new (refusal_line kind why)

  module _ {S : Type 0} (Contents : ℕ → List ℕ → S → ℕ → Type 0) (kind : ℕ) (Rejects : ℕ → List ℕ → Unfit → Type 0) (earlier : Earlier S) where
    -- why a heap is refused by name: one that is upgraded by what the version before says of the region that counts
    abbrev pub IsHeapRefused : Heap → D → D → K → K → Type 0
    IsHeapRefused (New order) was now old new = IsUnmade order was now old new
    IsHeapRefused Standing was now old new = IsUnopened kind (IsRefusal Contents Rejects) was now old new
    IsHeapRefused Upgraded was now old new = IsUnopened kind (IsUpgradeRefusal earlier) was now old new
