-- What following a stream with a name promises.
use Rattle.std.specs.Prelude.{◌≡◌, ◌⊎◌, ℕ, List, false, codes, IsTrue, IsSome, Option, Some, None}
use Rattle.rom_model.specs.Region.{Contents}
use Rattle.rom_model.specs.Space.{ChangesOnly}
use Rattle.rom_model.specs.State.{State}
use Rattle.rom_device.specs.Device.{Does, ShownDevice}
use Rattle.rom_header.specs.Held.{Holds}
use Rattle.rom_text.specs.Runs.{IsLineWrittenOrCutShort}
use Rattle.rom_text.specs.Streams.{ShownSink, ShownSource, StopsWriting}
use Rattle.rom_name.specs.Greetings.{IsGreeted}
use Rattle.rom_name.specs.Identities.{IsOwnAnswer}
use Rattle.rom_name.specs.Meetings.{IsNewFor, MayFollow, MayRaise}
use Rattle.rom_name.specs.Peeked.{IsFirst, IsUnread, shown_peeked, source_of}
use Rattle.rom_name.specs.Telling.{IsPrintedOr5}
use Rattle.rom_name.specs.Texts.{refusal_text}
use Rattle.rom_name.specs.declared.count.Own.{Own}
use Rattle.rom_name.specs.declared.greeting.Greeting.{Greeting}
use Rattle.rom_name.specs.declared.greeting.Greeting.TheVariants.{Followed, Refused, StreamFailed, DeviceFailed}
use Rattle.rom_name.specs.declared.meeting.Refusal.{Refusal}
use Rattle.rom_name.specs.declared.peeked.First.{First}
use Rattle.rom_name.specs.declared.peeked.First.TheVariants as first
use Rattle.rom_name.specs.declared.peeked.Peeked.{Peeked}
use Rattle.rom_store.specs.Sessions.{SessionSeen}
use Rattle.rom_replica.specs.Promise.{OfOne}
use Rattle.rom_tail.specs.Promise.{TailPromise}

-- Frames of a stream that begins so may be done on a heap of this identity and count: the stream has no byte; or both are of one heap and one epoch, or of its next one, which began behind what was done, and it lacks no update; or the heap is new, and takes the stream's name.
abbrev pub MayTake : Own → First → Type 0
MayTake own (first.Headed h) = MayFollow own.identity own.count h ⊎ MayRaise own.identity own.count h ⊎ IsNewFor own.identity own.count h
MayTake own first.Empty = Unit {0}
MayTake own other = ⊥

-- The device, the inputs and the session of what ends without following.
pub record IsUntailed {D X : Type 0} (met now : D) (ready left : List X) (session : Option SessionSeen) : Type 0 where
  pub device : now ≡ met
  pub inputs : left ≡ ready
  pub none : session ≡ None

module _ {D S : Type 0} {bound : _} (shown : ShownDevice D) (source : ShownSource S) where
  -- One that failed before it was known how it begins has another in its place, of which nothing was read.
  abbrev pub IsReady : S → Peeked S bound → Peeked S bound → Greeting → Type 0
  IsReady missing behind ready StreamFailed = IsUnread ready × (source_of ready ≡ missing)
  IsReady missing behind ready other = ready ≡ behind

  -- The device was this one and is that one once it met the stream, which was this one, and of which that one is to be followed.
  pub record IsMetBy (missing : S) (was met : D) (stream ready : Peeked S bound) (greeting : Greeting) : Type 0 where
    -- the stream behind what was read of it
    pub behind : Peeked S bound
    pub greeted : IsGreeted shown (IsFirst source) false was met stream behind greeting
    pub ready_is : IsReady missing behind ready greeting
    -- whatever the greeting is, and where it is stopped: no word differs but the four of the identity
    pub does : Does shown (ChangesOnly 4 4) was met
    -- so the heap holds what it held
    pub keeps : (order : ℕ) (i j : List ℕ) (s : State) (k : ℕ) → ChangesOnly 4 4 i j → Holds Contents order i s k → Holds Contents order j s k

  -- The heap of the device may take frames of the stream, by what both held before.
  pub record IsTakenFrom (was : D) (stream behind : Peeked S bound) : Type 0 where
    pub own : Own
    pub own_is : IsOwnAnswer (shown.words was) (Some own)
    pub first : First
    pub first_is : IsFirst source first stream behind
    pub may : MayTake own first

  module _ {K : Type 0} (sink : ShownSink K) (met now : D) (ready left : List (Peeked S bound)) (old new : K) (status : ℕ) (session : Option SessionSeen) (refusal : Option Refusal) where
    -- the rest is that of `tail`, on the device and the stream as they are then
    abbrev IsTailed : Type 0
    IsTailed = (refusal ≡ None) × TailPromise shown (shown_peeked source) sink met now ready left old new status session

    -- What is done then: the stream is followed, or the one in its place; or it is told why not.
    abbrev pub EndsBy : Greeting → Type 0
    EndsBy Followed = IsTailed
    EndsBy StreamFailed = IsTailed
    EndsBy (Refused why) = (refusal ≡ Some why) × IsUntailed met now ready left session × IsPrintedOr5 sink 3 (refusal_text why) old new status
    EndsBy DeviceFailed = (refusal ≡ None) × IsUntailed met now ready left session × (status ≡ 7) × IsLineWrittenOrCutShort sink old new (codes "device failed")

  -- Whatever becomes of a stream that is to be followed by its name, it ends so and prints so.
  pub record NamedPromise {K : Type 0} (sink : ShownSink K) (missing : S) (was now : D) (inputs left : List (Peeked S bound)) (old new : K) (status : ℕ) (session : Option SessionSeen) (refusal : Option Refusal) : Type 0 where
    -- the device and the stream once they were met, and what came of that
    pub met : D
    pub ready : List (Peeked S bound)
    pub greeting : Greeting
    pub meeting : OfOne inputs ready (λ x y. IsMetBy missing was met x y greeting)
    -- what was done then
    pub ended : EndsBy sink met now ready left old new status session refusal greeting
    -- So with a session the stream is of this heap, or its place was taken: no frame of another heap, of an older epoch, or behind a gap was done.
    pub whose : IsTrue shown.tells_words → IsSome session → (greeting ≡ StreamFailed) ⊎ OfOne inputs ready (IsTakenFrom was)
    -- and the sink
    pub writing : StopsWriting sink old new
    pub rest : sink.rest new ≡ sink.rest old
