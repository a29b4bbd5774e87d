-- What is promised of a heap that a command works on.
use Rattle.std.specs.Prelude.{◌≡◌, ◌≤◌, ◌⊎◌, ℕ, List, [], length, IsNone, IsTrue, codes, Option, Some, None}
use Rattle.std.specs.List.{AllByRecursion}
use Rattle.rom_model.specs.Earlier.{Earlier}
use Rattle.rom_model.specs.Machine.{Machine}
use Rattle.rom_model.specs.Story.{Story}
use Rattle.rom_model.specs.declared.kept.Kept.{Kept}
use Rattle.rom_model.specs.declared.unfit.Unfit.{Unfit}
use Rattle.rom_device.specs.Device.{Leaves, ShownDevice, told_words}
use Rattle.rom_header.specs.Held.{Holds}
use Rattle.rom_header.specs.Layout.{words_needed}
use Rattle.rom_recover.specs.Recovered.{Mended}
use Rattle.rom_text.specs.Runs.{IsLineWrittenOrCutShort}
use Rattle.rom_text.specs.Streams.{ShownSink}
use Rattle.rom_open.specs.Refusals.{named_order}
use Rattle.rom_open.specs.Within.{WithinOpening}
use Rattle.rom_store.specs.Moments.{IsCommittedAt}
use Rattle.rom_store.specs.Sessions.{EachStory, HasStory, SessionSeen}
use Rattle.rom_run.specs.Keeping.{AreWordsKept, CountsFaults, HasDeviceFailed, IsCalledWithin, IsHeapRefused, IsHeldNow, IsLeft, IsLeftBySession, IsMade, IsSpared, IsStoryOpening, IsUncalled, IsUpgraded}
use Rattle.rom_run.specs.Statuses.{exit_number}
use Rattle.rom_run.specs.Use.{Makes, Plays, Shows, Upgrades, Use}
use Rattle.rom_run.specs.declared.heap.Heap.{Heap}
use Rattle.rom_run.specs.declared.status.Status.{Status}
use Rattle.rom_run.specs.declared.status.Status.TheVariants.{DeviceFailed, HeapRefused, NoMemory}
use Rattle.rom_run.specs.declared.worked.Worked.{Worked}

module _ {D : Type 0} (shown : ShownDevice D) where
  -- Whatever becomes of it, the device keeps its length and its other words.
  pub record IsDeviceKept (heap : Heap) (was now : D) : Type 0 where
    pub size : shown.size now ≡ shown.size was
    pub outside : IsTrue shown.tells_words → AreWordsKept heap (shown.words was) (shown.words now)
    pub spared : IsSpared shown heap was now

module _ {S C Q R A : Type 0} (machine : Machine S C Q R A) (Contents : ℕ → List ℕ → S → ℕ → Type 0) {D : Type 0} (shown : ShownDevice D) where
  -- A session on this heap: how it began, that its passes are the device's, and what a stop leaves at any moment and at the end. The heap stood, and the first pass began, at one and the same device.
  pub record IsSessionOn (heap : Heap) (was now : D) (story : Story S) : Type 0 where
    pub opening : IsStoryOpening machine Contents heap (told_words shown was) story
    pub fits : words_needed story.order ≤ shown.size was
    pub faults : CountsFaults machine Contents shown heap was now story
    pub since : IsTrue shown.tells_images → IsLeftBySession machine Contents shown heap was faults.went.first now story
    pub at_end : IsTrue shown.tells_images → IsHeldNow machine Contents shown now story

  -- It has a story, and each of its stories is such a session and has P with what its callers keep; and all that a caller has seen was committed at the moments that it knows.
  pub record HasSession (heap : Heap) (was now : D) (P : List Kept → Story S → Type 0) (session : SessionSeen) : Type 0 where
    pub story : HasStory machine Contents session
    pub each : EachStory machine Contents session (IsSessionOn heap was now)
    pub told : EachStory machine Contents session (P session.callers)
    pub certain : EachStory machine Contents session (λ story. AllByRecursion (λ v. IsCommittedAt story v.moments (length v.seen)) session.callers)

  module _ {K : Type 0} (sink : ShownSink K) (kind : ℕ) (Rejects : ℕ → List ℕ → Unfit → Type 0) (earlier : Earlier S) where
    -- There is no session: what a stop may leave, how often the device was called at most, and by the status why.
    pub record HasNone (heap : Heap) (was now : D) (old new : K) (status : ℕ) : Type 0 where
      pub images : IsTrue shown.tells_images → IsLeft machine Contents shown earlier heap was now
      pub calls : IsCalledWithin shown heap was now
      pub heap_refused : status ≡ 3 → IsHeapRefused shown sink Contents kind Rejects earlier heap was now old new
      pub device_failed : status ≡ 7 → HasDeviceFailed shown sink was now old new
      pub unfailed : status ≡ 6 → shown.faults now ≡ shown.faults was
      pub uncalled : status ≡ 6 → IsUncalled shown heap was now
      pub no_memory : status ≡ 6 → IsLineWrittenOrCutShort sink old new (codes "no memory")

    -- There is no heap to work on, and the work on the device has ended so: it is refused by name (3), memory is short (6), or the device failed (7).
    pub record HasNoHeap (heap : Heap) (was : D) (old new : K) (worked : Worked D) : Type 0 where
      pub none : HasNone heap was worked.device old new (exit_number worked.status)
      pub kept : IsDeviceKept shown heap was worked.device
      pub statuses : (worked.status ≡ HeapRefused) ⊎ (worked.status ≡ NoMemory) ⊎ (worked.status ≡ DeviceFailed)
      pub ran : IsNone worked.session

-- how the work on a device has ended, with no session
abbrev pub without_session : {D : Type 0} → D → Status → Worked D
without_session device status = record { device = device; status = status; session = None }

-- A heap that is only shown is as it was: no pass was made on it, so that the session's first device is its last one; its words hold what the story begins with; whatever a stop leaves, the same region counts as before; and the device was called no more often than to open it.
pub record IsAsBefore {S D : Type 0} (Contents : ℕ → List ℕ → S → ℕ → Type 0) (shown : ShownDevice D) (was now : D) (story : Story S) : Type 0 where
  pub unpassed : story.records ≡ []
  pub held : IsTrue shown.tells_words → Holds Contents story.order (shown.words now) story.opening story.opening_count
  pub at_end : IsTrue shown.tells_images → (i : List ℕ) → shown.leaves now i → Holds Contents story.order i story.opening story.opening_count
  pub calls : WithinOpening shown was now
  pub images : IsTrue shown.tells_images → Leaves shown (Mended (named_order (shown.words was)) (shown.words was)) was now

-- Of a command that only shows a heap: it is as it was. Of any other this says nothing.
abbrev pub IsStill : {S D : Type 0} → (ℕ → List ℕ → S → ℕ → Type 0) → ShownDevice D → Option Use → D → D → Story S → Type 0
IsStill Contents shown (Some (Plays heap scripts)) was now story = Unit {0}
IsStill Contents shown (Some (Makes order)) was now story = Unit {0}
IsStill Contents shown (Some Shows) was now story = IsAsBefore Contents shown was now story
IsStill Contents shown (Some Upgrades) was now story = Unit {0}
IsStill Contents shown None was now story = Unit {0}

-- what is made by a command that is done, or upgraded
abbrev pub HasMade : {S C Q R A D K : Type 0} → Machine S C Q R A → (ℕ → List ℕ → S → ℕ → Type 0) → Earlier S → ShownDevice D → ShownSink K → Option Use → D → D → K → K → Type 0
HasMade machine Contents earlier shown sink (Some (Plays heap scripts)) was now old new = Unit {0}
HasMade machine Contents earlier shown sink (Some (Makes order)) was now old new = IsMade shown sink Contents machine.empty order was now old new
HasMade machine Contents earlier shown sink (Some Shows) was now old new = Unit {0}
HasMade machine Contents earlier shown sink (Some Upgrades) was now old new = IsUpgraded shown sink Contents earlier was now old new
HasMade machine Contents earlier shown sink None was now old new = Unit {0}
