-- What a run of callers promises.
use Rattle.std.specs.Prelude.{◌≡◌, ◌≢◌, ◌⊎◌, ℕ, ◌+◌, ◌<◌, ◌≤◌, List, IsTrue, None, Option, Some, length, slice_index}
use Rattle.std.specs.List.{AllByRecursion, Contains}
use Rattle.rom_model.specs.Leaving.{IsClosed, IsKept}
use Rattle.rom_model.specs.Machine.{Machine, on_words}
use Rattle.rom_model.specs.Passes.{faults_after}
use Rattle.rom_model.specs.Story.{Story}
use Rattle.rom_model.specs.declared.kept.Kept.{Kept}
use Rattle.rom_device.specs.Device.{Leaves, OnlyReads, ShownDevice}
use Rattle.rom_header.specs.Held.{Holds}
use Rattle.rom_header.specs.Layout.{MAGIC, words_needed}
use Rattle.rom_model.specs.Faults.{AtMost, Rose, StopsAtFault}
use Rattle.rom_model.specs.Space.{ChangesOnly}
use Rattle.rom_model.specs.declared.unfit.Unfit.{Unfit}
use Rattle.rom_open.specs.Making.{NoneOrHolds}
use Rattle.rom_open.specs.Refusals.{named_order}
use Rattle.rom_open.specs.Within.{HasOpened}
use Rattle.rom_open.specs.declared.reasons.Why.{Why}
use Rattle.rom_open.specs.declared.reasons.Why.TheVariants.{Device, NotAHeap, OutOfMemory, TooSmall}
use Rattle.rom_combine.specs.Costs.{WithinHeap}
use Rattle.rom_combine.specs.Session.{ImageNow, SessionImage}
use Rattle.rom_rule.specs.declared.views.Base.{Base}
use Rattle.rom_store.specs.Closing.{ClosedSeen}
use Rattle.rom_store.specs.Indexed.{Both, Indexed}
use Rattle.rom_store.specs.Moments.{LastsFor}
use Rattle.rom_store.specs.Openings.{HasBeenRefused}
use Rattle.rom_store.specs.Sessions.{EachStory, HasStory, IsStoryOf, SessionSeen}
use Rattle.rom_store.specs.Start.{HasStarted, device_start}
use Rattle.rom_store.specs.Traced.{WentThrough}
use Rattle.rom_caller.specs.declared.making.Mode.{Mode}
use Rattle.rom_caller.specs.declared.making.Mode.TheVariants.{Open, OpenOrCreate}

-- what the heap of a session was opened with, for so many callers
abbrev pub opened_for : ℕ → SessionSeen → Base
opened_for many session = record { order = session.order; callers = many; image = session.image; faults = session.faults }

-- of which order a heap may be made
abbrev pub order_asked : Mode → Option ℕ
order_asked Open = None
order_asked (OpenOrCreate order) = Some order

-- The session began with a heap of this order, in this state and with this count of updates.
abbrev pub HasBegunWith : {S : Type 0} → ℕ → S → ℕ → Story S → Type 0
HasBegunWith n s k story = (story.order ≡ n) × (story.opening ≡ s) × (story.opening_count ≡ k)

-- What a making for this order leaves of a device, whatever became of it: only words of the new heap differ; each image that a stop might have left by now could be left before, or has no heap, or holds the empty state; one word was read and one heap made at most, and nothing was called after a call that failed.
pub record IsAltered {D S : Type 0} (shown : ShownDevice D) (Contents : ℕ → List ℕ → S → ℕ → Type 0) (empty : S) (order : ℕ) (was now : D) : Type 0 where
  pub size : shown.size now ≡ shown.size was
  pub outside : IsTrue shown.tells_words → ChangesOnly 0 (words_needed order) (shown.words was) (shown.words now)
  pub images : IsTrue shown.tells_images → Leaves shown (NoneOrHolds Contents order empty) was now
  pub reads : AtMost 2 (shown.reads was) (shown.reads now)
  pub writes : AtMost (words_needed order) (shown.writes was) (shown.writes now)
  pub syncs : AtMost 3 (shown.syncs was) (shown.syncs now)
  pub stops : StopsAtFault (shown.faults was) (shown.faults now) (shown.failing now)

-- A heap of this order was made on a device of which no call failed: it holds the empty state, and so does each image that a stop leaves now.
pub record IsMade {D S : Type 0} (shown : ShownDevice D) (Contents : ℕ → List ℕ → S → ℕ → Type 0) (empty : S) (order : ℕ) (was now : D) : Type 0 where
  pub holds : IsTrue shown.tells_words → Holds Contents order (shown.words now) empty 0
  pub stands : IsTrue shown.tells_words → IsTrue shown.tells_images → (i : List ℕ) → shown.leaves now i → Holds Contents order i empty 0
  pub faults : shown.faults now ≡ shown.faults was

-- A device before its heap is opened: where its first word was 0 and a heap was asked for, one was made on it, and else it was only read.
pub record IsReady {D S : Type 0} (shown : ShownDevice D) (Contents : ℕ → List ℕ → S → ℕ → Type 0) (empty : S) (make : Option ℕ) (was now : D) : Type 0 where
  pub unasked : make ≡ None → now ≡ was
  pub read : IsTrue shown.tells_words → slice_index (shown.words was) 0 ≢ 0 → OnlyReads shown was now
  pub made : (order : ℕ) → make ≡ Some order → IsTrue shown.tells_words → slice_index (shown.words was) 0 ≡ 0 → IsMade shown Contents empty order was now
  pub altered : (order : ℕ) → make ≡ Some order → IsAltered shown Contents empty order was now
  pub faults : shown.faults now ≡ shown.faults was

module _ {D S C Q R A T : Type 0} (shown : ShownDevice D) (machine : Machine S C Q R A) (Contents : ℕ → List ℕ → S → ℕ → Type 0) (Did : Base → ℕ → Kept → T → Type 0) (many : ℕ) (results : List T) where
  -- Of so many callers, in the order of their indices: what each keeps is among what the session has, and in each story it is what the passes told it; and it did what it was to do.
  pub record AreDone (session : SessionSeen) : Type 0 where
    pub keeps : List Kept
    pub as_many : (length keeps ≡ many) × (length results ≡ many)
    pub among : Indexed (λ i v. (v.number ≡ i + 1) × Contains session.callers v) keeps
    pub kept : EachStory machine Contents session (λ story. Indexed (λ _ v. IsKept machine story v) keeps)
    pub did : Both (λ i v out. Did (opened_for many session) i v out) keeps results

  -- There is one history, that of the passes, which found updates of these callers alone; what each was told is in it, and lasts; and the device went through the passes, from one on of which First holds.
  pub record IsRun (First : D → Type 0) (closed : ClosedSeen D) : Type 0 where
    pub story : HasStory machine Contents closed.session
    pub alone : EachStory machine Contents closed.session (λ story. IsClosed machine story many)
    pub done : AreDone closed.session
    pub lasts : EachStory machine Contents closed.session (λ story. AllByRecursion (LastsFor shown Contents (on_words machine) story closed.device) closed.session.callers)
    -- each image that a stop leaves now holds the published history, or that with the batch in doubt
    pub now : IsTrue shown.tells_images → EachStory machine Contents closed.session (λ story. (i : List ℕ) → shown.leaves closed.device i → ImageNow Contents (on_words machine) story i)
    pub went : EachStory machine Contents closed.session (λ story. WentThrough shown Contents (on_words machine) story First closed.device)
    -- each image since then could be left before, or is one of the session
    pub since : IsTrue shown.tells_images → (story : Story S) (is : IsStoryOf machine Contents closed.session story) → Leaves shown (SessionImage Contents (on_words machine) story) (went story is).first closed.device
    pub faults : faults_after closed.session.faults closed.session.records ≤ shown.faults closed.device

  -- so, on a store that was started on this device with this opening
  pub record IsRunOn (base : Base) (was : D) (closed : ClosedSeen D) : Type 0 where
    pub run : IsRun (HasStarted shown base.faults (device_start shown was) (shown.left_since was)) closed
    pub order : closed.session.order ≡ base.order
    pub image : closed.session.image ≡ base.image
    pub opening_faults : closed.session.faults ≡ base.faults
    pub since : IsTrue shown.tells_images → EachStory machine Contents closed.session (λ story. Leaves shown (SessionImage Contents (on_words machine) story) was closed.device)
    pub size : shown.size closed.device ≡ shown.size was
    pub outside : IsTrue shown.tells_words → WithinHeap base.order (shown.words was) (shown.words closed.device)

  -- They ran on the heap of a device, after one opening, of which no call failed.
  pub record HasRun (was : D) (closed : ClosedSeen D) : Type 0 where
    pub run : IsRun (HasOpened shown closed.session.order was) closed
    -- the heap has the order that the device's header named, and the device has room for it
    pub order : IsTrue shown.tells_words → closed.session.order ≡ named_order (shown.words was)
    pub fits : words_needed closed.session.order ≤ shown.size was
    -- the history begins with the state and the count that the device's words held
    pub held : IsTrue shown.tells_words → EachStory machine Contents closed.session (λ story. Holds Contents story.order (shown.words was) story.opening story.opening_count)
    pub faults : closed.session.faults ≡ shown.faults was
    -- of the device's words only the state and the two regions of the heap may differ
    pub size : shown.size closed.device ≡ shown.size was
    pub outside : IsTrue shown.tells_words → WithinHeap (named_order (shown.words was)) (shown.words was) (shown.words closed.device)
    -- each image that a stop might have left by now could be left before, or is one of the session
    pub since : IsTrue shown.tells_images → EachStory machine Contents closed.session (λ story. Leaves shown (SessionImage Contents (on_words machine) story) was closed.device)

-- Why no heap of this order was made: another's first word stands there; or there are too few words, which are named, or no memory, and a 0 stands there; or the device failed. But for that it was only read.
abbrev pub HasUnmade : {D : Type 0} → ShownDevice D → ℕ → D → D → Why → Type 0
HasUnmade shown order was now NotAHeap = OnlyReads shown was now × (IsTrue shown.tells_words → (slice_index (shown.words was) 0 ≢ 0) × (slice_index (shown.words was) 0 ≢ MAGIC))
HasUnmade shown order was now (TooSmall need have) = OnlyReads shown was now × (need ≡ words_needed order) × (have ≡ shown.size was) × (have < need) × (IsTrue shown.tells_words → 0 < have → slice_index (shown.words was) 0 ≡ 0)
HasUnmade shown order was now OutOfMemory = OnlyReads shown was now × (IsTrue shown.tells_words → slice_index (shown.words was) 0 ≡ 0)
HasUnmade shown order was now Device = Rose (shown.faults was) (shown.faults now)
HasUnmade shown order was now other = ⊥

-- A heap was asked for, and could not be made.
pub record HasMadeNone {D S : Type 0} (shown : ShownDevice D) (Contents : ℕ → List ℕ → S → ℕ → Type 0) (empty : S) (make : Option ℕ) (was now : D) (why : Why) : Type 0 where
  pub order : ℕ
  pub asked : make ≡ Some order
  pub cause : HasUnmade shown order was now why
  pub read : IsTrue shown.tells_words → slice_index (shown.words was) 0 ≢ 0 → OnlyReads shown was now
  pub altered : IsAltered shown Contents empty order was now

-- Why callers did not run on a device: there was no memory for their jobs, and it was not called; or no heap could be made on it; or, once it was ready, its heap was not opened.
abbrev pub IsUnrun : {D S : Type 0} → ShownDevice D → (ℕ → List ℕ → S → ℕ → Type 0) → (ℕ → List ℕ → Unfit → Type 0) → S → Option ℕ → D → D → Why → Type 0
IsUnrun {D} shown Contents Rejects empty make was now why = ((why ≡ OutOfMemory) × (now ≡ was))
    ⊎ HasMadeNone shown Contents empty make was now why
    ⊎ ((ready : D) × IsReady shown Contents empty make was ready × HasBeenRefused shown Contents Rejects ready now why)
