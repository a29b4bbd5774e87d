-- What the program promises of a command.
use Rattle.std.specs.Prelude.{◌≡◌, ◌⊎◌, ℕ, List, [], ◌∷◌, length, IsTrue, IsSome, IsNone, IfSome, Option, Some, None}
use Rattle.std.specs.Global.{Vec}
use Rattle.std.specs.List.{AllByRecursion}
use Rattle.rom_heap.specs.Answers.{Rejects, earlier}
use Rattle.rom_model.specs.Machine.{on_words}
use Rattle.rom_model.specs.Region.{Contents}
use Rattle.rom_model.specs.Trio.{trio}
use Rattle.rom_device.specs.Device.{ShownDevice}
use Rattle.rom_combine.specs.Costs.{IsUnfailed}
use Rattle.rom_text.specs.Lines.{AreScripts}
use Rattle.rom_text.specs.Runs.{AreAskedOnce}
use Rattle.rom_text.specs.Streams.{ShownSink, ShownSource, StopsWriting, WriteFailed}
use Rattle.rom_store.specs.Lasting.{HasLasted}
use Rattle.rom_store.specs.Moments.{LastsFor}
use Rattle.rom_store.specs.Sessions.{EachStory, SessionSeen}
use Rattle.rom_script.specs.Lines.{ReadsTrio}
use Rattle.rom_run.specs.Complete.{IsAtHand, IsRefusedByName, NoneFailed}
use Rattle.rom_run.specs.Promise.{Promise}
use Rattle.rom_run.specs.Plain.{Follow, PlainCommand, plain_use}
use Rattle.rom_run.specs.Working.{HasNone, HasSession, IsDeviceKept}
use Rattle.rom_run.specs.declared.heap.Heap.TheVariants.{Standing}
use Rattle.rom_replica.specs.Following.{IsToldOfStream}
use Rattle.rom_replica.specs.Shipped.{AreFramed, AreShipped}
use Rattle.rom_follow.specs.Following.{HasWords}
use Rattle.rom_model.specs.declared.entry.Entry.{Entry}

-- the one source that there is, before and after
abbrev pub OfOne : {X : Type 0} → List X → List X → (X → X → Type 0) → Type 0
OfOne (was ∷ []) (now ∷ []) P = P was now
OfOne before after P = ⊥

-- the statuses with which a stream was followed; with 7 it may have been, and then the device failed under an update
abbrev pub IsFollowedStatus : ℕ → Type 0
IsFollowedStatus status = (status ≡ 0) ⊎ (status ≡ 1) ⊎ (status ≡ 4) ⊎ (status ≡ 5) ⊎ (status ≡ 8) ⊎ (status ≡ 9) ⊎ (status ≡ 10)

-- those with which it was not
abbrev pub IsUnfollowedStatus : ℕ → Type 0
IsUnfollowedStatus status = (status ≡ 3) ⊎ (status ≡ 6)

-- those that no fault is the cause of, on a heap that stands
abbrev pub EndsUnfailed : ℕ → Type 0
EndsUnfailed status = (status ≡ 0) ⊎ (status ≡ 1) ⊎ (status ≡ 6) ⊎ (status ≡ 8) ⊎ (status ≡ 9) ⊎ (status ≡ 10)

module _ {D X K : Type 0} (shown : ShownDevice D) (source : ShownSource X) (sink : ShownSink K) where
  -- `follow`: whatever becomes of it, it ends so and prints so. It has a record beside `Promise`, since no
  -- scripts are played: its statuses are others, it reads while it works, and frames tell what it did. Of the
  -- device, of refusals and of sessions both records cite the same definitions.
  pub record FollowPromise (was now : D) (inputs left : Vec X) (old new : K) (status : ℕ) (session : Option SessionSeen) : Type 0 where
    -- the status, and where a session is left
    pub statuses : IsFollowedStatus status ⊎ IsUnfollowedStatus status ⊎ (status ≡ 7)
    pub taken : IsFollowedStatus status → IsSome session
    pub not_taken : IsUnfollowedStatus status → IsNone session
    -- and which it is where the heap stands and nothing fails
    pub complete : IsTrue shown.tells_words → IsAtHand Contents earlier Standing (shown.words was) → NoneFailed shown source sink was now inputs.items left.items old new → EndsUnfailed status
    -- With 3 the heap is refused by name; and where it is, and no call of the device fails, it is 3, unless memory is short.
    pub refused_so : IsTrue shown.tells_words → status ≡ 3 → IsRefusedByName Contents Rejects earlier Standing (shown.words was)
    pub refused : IsTrue shown.tells_words → IsRefusedByName Contents Rejects earlier Standing (shown.words was) → IsUnfailed shown was now → (status ≡ 3) ⊎ (status ≡ 6)
    -- where the heap was opened, the stream was followed, and what a stop of the device leaves is told by the history
    pub story : IfSome session (HasSession trio Contents shown Standing was now (λ callers story. OfOne inputs.items left.items (λ x y. IsToldOfStream source sink x y old new status callers story)))
    -- and each pass that added to it was certain at its commit: no stop since then has left less of it
    pub lasting : IfSome session (λ s. EachStory trio Contents s (λ story. HasLasted shown Contents (on_words trio) story now))
    -- What its one caller was told is all of the history, and it keeps the moments at which that was committed: no stop since the moment of an entry has left less of the history than up to this entry.
    pub told_lasts : IfSome session (λ s. EachStory trio Contents s (λ story. AllByRecursion (LastsFor shown Contents (on_words trio) story now) s.callers))
    -- else what a stop may leave, and why it was not opened; and the stream was not read
    pub none : IsNone session → HasNone trio Contents shown sink 1 Rejects earlier Standing was now old new status
    pub unread : IsNone session → left.items ≡ inputs.items
    -- the device
    pub kept : IsDeviceKept shown Standing was now
    -- the stream
    pub many : length left.items ≡ length inputs.items
    pub asked_once : AreAskedOnce source inputs.items left.items
    -- and the sink
    pub sink_failed : status ≡ 5 → WriteFailed sink old new
    pub writing : StopsWriting sink old new
    pub rest : sink.rest new ≡ sink.rest old

  -- So of each command. All but `follow`, and words that are no command, keep the promise of a program; what `ship` prints are the frames of the history.
  abbrev pub ReplicaPromise : Option PlainCommand → D → D → Vec X → Vec X → K → K → ℕ → Option SessionSeen → Type 0
  ReplicaPromise (Some (Follow file stream)) was now inputs left old new status session = FollowPromise was now inputs left old new status session
  ReplicaPromise asked was now inputs left old new status session =
      Promise trio Contents 1 Rejects earlier shown source sink (AreScripts ReadsTrio source) (AreShipped sink) (plain_use asked) was now inputs left old new status session

-- A history whose frames were shipped is one that can be followed: its frames are of 64-bit words.
abbrev pub CanBeFollowed : Type 0
CanBeFollowed = (place : ℕ) (history : List Entry) → AreFramed place history → HasWords place history
