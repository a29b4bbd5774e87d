-- What following in batches promises.
use Rattle.std.specs.Prelude.{◌≡◌, ◌⊎◌, ℕ, ◌≤◌, ◌++◌, List, length, IsTrue, IsSome, IsNone, IfSome, Option}
use Rattle.std.specs.List.{AllByRecursion}
use Rattle.rom_heap.specs.Answers.{Rejects, earlier}
use Rattle.rom_model.specs.History.{IsLegal, LAST_COUNT}
use Rattle.rom_model.specs.Lawful.{IsRecorded}
use Rattle.rom_model.specs.Machine.{on_words}
use Rattle.rom_model.specs.Region.{Contents}
use Rattle.rom_model.specs.State.{State}
use Rattle.rom_model.specs.Story.{Story, count}
use Rattle.rom_model.specs.Trio.{trio}
use Rattle.rom_device.specs.Device.{ShownDevice}
use Rattle.rom_combine.specs.Costs.{IsUnfailed}
use Rattle.rom_text.specs.Runs.{AreAskedOnce}
use Rattle.rom_text.specs.Streams.{ShownSink, ShownSource, StopsWriting, WriteFailed}
use Rattle.rom_store.specs.Lasting.{HasLasted}
use Rattle.rom_store.specs.Moments.{LastsFor}
use Rattle.rom_store.specs.Sessions.{EachStory, SessionSeen}
use Rattle.rom_run.specs.Complete.{IsAtHand, IsRefusedByName, NoneFailed}
use Rattle.rom_run.specs.Working.{HasNone, HasSession, IsDeviceKept}
use Rattle.rom_run.specs.declared.heap.Heap.TheVariants.{Standing}
use Rattle.rom_replica.specs.Promise.{IsUnfollowedStatus, OfOne}
use Rattle.rom_replica.specs.declared.stop.Stop.{Stop}
use Rattle.rom_tail.specs.Chased.{Chased, HasDone}
use Rattle.rom_tail.specs.Prefixes.{FollowsEach}
use Rattle.rom_tail.specs.Tailed.{IsTailText, IsTailed}
use Rattle.rom_tail.specs.declared.tally.Tally.{Tally}

-- the statuses with which a stream was followed; with 7 it may have been, and then the device failed under a batch
abbrev pub IsTailedStatus : ℕ → Type 0
IsTailedStatus status = (status ≡ 0) ⊎ (status ≡ 1) ⊎ (status ≡ 4) ⊎ (status ≡ 5) ⊎ (status ≡ 9) ⊎ (status ≡ 10)

-- those that no fault is the cause of, on a heap that stands
abbrev pub EndsUnfailed : ℕ → Type 0
EndsUnfailed status = (status ≡ 0) ⊎ (status ≡ 1) ⊎ (status ≡ 6) ⊎ (status ≡ 9) ⊎ (status ≡ 10)

-- The session of a heap that did nothing but take the frames of a stream, up to the first stop.
pub record HasClosed {X : Type 0} (source : ShownSource X) (was now : X) (tally : Tally) (stop : Stop) (session : SessionSeen) : Type 0 where
  pub opened : ℕ
  pub chaser : Chased
  pub tailed : IsTailed source opened was now chaser.history chaser.records tally stop
  pub done : (s : State) (k : ℕ) → Contents session.order session.image s k → (opened ≡ k) × HasDone session.order s k chaser
  pub history : session.history ≡ chaser.history
  pub records : session.records ≡ chaser.records

-- What its story tells: what came of the stream, and a legal history, which the passes made. Where all frames that were read are of one legal history, the heap has a prefix of it, and so has each image.
pub record IsStreamTailed {D X : Type 0} (shown : ShownDevice D) (device closed : D) (source : ShownSource X) (was now : X) (tally : Tally) (stop : Stop) (story : Story State) : Type 0 where
  pub tailed : IsTailed source story.opening_count was now story.history story.records tally stop
  pub legal : IsLegal (on_words trio) story.order story.opening story.opening_count story.history
  pub within : count story ≤ LAST_COUNT
  pub recorded : IsRecorded trio story
  pub follows : FollowsEach shown device closed story stop (tailed.frames ++ tailed.rest)

-- And the two lines tell of it.
pub record IsToldOfTail {D X K : Type 0} (shown : ShownDevice D) (device closed : D) (source : ShownSource X) (sink : ShownSink K) (was now : X) (old new : K) (status : ℕ) (story : Story State) : Type 0 where
  pub tally : Tally
  pub stop : Stop
  pub stream : IsStreamTailed shown device closed source was now tally stop story
  pub printed : IsTailText sink tally stop (count story) old new status

-- Whatever becomes of a heap that follows a stream in batches, it ends so and prints so.
pub record TailPromise {D X K : Type 0} (shown : ShownDevice D) (source : ShownSource X) (sink : ShownSink K) (was now : D) (inputs left : List X) (old new : K) (status : ℕ) (session : Option SessionSeen) : Type 0 where
  -- the status, and where a session is left
  pub statuses : IsTailedStatus status ⊎ IsUnfollowedStatus status ⊎ (status ≡ 7)
  pub taken : IsTailedStatus status → IsSome session
  pub not_taken : IsUnfollowedStatus status → IsNone session
  -- and which it is where the heap stands and nothing fails
  pub complete : IsTrue shown.tells_words → IsAtHand Contents earlier Standing (shown.words was) → NoneFailed shown source sink was now inputs left old new → EndsUnfailed status
  -- With 3 the heap is refused by name; and where it is, and no call of the device fails, it is 3, unless memory is short.
  pub refused_so : IsTrue shown.tells_words → status ≡ 3 → IsRefusedByName Contents Rejects earlier Standing (shown.words was)
  pub refused : IsTrue shown.tells_words → IsRefusedByName Contents Rejects earlier Standing (shown.words was) → IsUnfailed shown was now → (status ≡ 3) ⊎ (status ≡ 6)
  -- Where the heap was opened, the stream was followed, and what a stop of the device leaves is told by the history. And the heap follows each history whose frames it read.
  pub story : IfSome session (HasSession trio Contents shown Standing was now (λ callers story. OfOne inputs left (λ x y. IsToldOfTail shown was now source sink x y old new status story)))
  -- each pass that added to the history was certain at its commit: no stop since then has left less of it
  pub lasting : IfSome session (λ s. EachStory trio Contents s (λ story. HasLasted shown Contents (on_words trio) story now))
  -- and what a caller was told lasts
  pub told_lasts : IfSome session (λ s. EachStory trio Contents s (λ story. AllByRecursion (LastsFor shown Contents (on_words trio) story now) s.callers))
  -- else what a stop may leave, and why it was not opened; and the stream was not read
  pub none : IsNone session → HasNone trio Contents shown sink 1 Rejects earlier Standing was now old new status
  pub unread : IsNone session → left ≡ inputs
  -- the device
  pub kept : IsDeviceKept shown Standing was now
  -- the stream
  pub many : length left ≡ length inputs
  pub asked_once : AreAskedOnce source inputs left
  -- and the sink
  pub sink_failed : status ≡ 5 → WriteFailed sink old new
  pub writing : StopsWriting sink old new
  pub rest : sink.rest new ≡ sink.rest old
