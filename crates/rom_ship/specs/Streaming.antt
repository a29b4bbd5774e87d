-- What a heap promises that converses, and streams its head and the frames of all that is done on it.
use Rattle.std.specs.Prelude.{◌≡◌, ◌⊎◌, ℕ, true, false, List, [], ◌++◌, codes, Option, Some, None, IfSome, IsSome, IsSomeAnd, IsNone, IsTrue}
use Rattle.rom_model.specs.Earlier.{Earlier}
use Rattle.rom_model.specs.Faults.{FailedLast}
use Rattle.rom_model.specs.Machine.{Machine}
use Rattle.rom_model.specs.Story.{Story}
use Rattle.rom_model.specs.declared.line.Step.{Step}
use Rattle.rom_model.specs.declared.unfit.Unfit.{Unfit}
use Rattle.rom_device.specs.Device.{Does, IsSynced, ShownDevice}
use Rattle.rom_combine.specs.Shipping.{Ships}
use Rattle.rom_text.specs.Runs.{IsLineWrittenOrCutShort}
use Rattle.rom_text.specs.Streams.{ShownSink}
use Rattle.rom_text.specs.Text.{Texts}
use Rattle.rom_hear.specs.Peers.{ShownPeer}
use Rattle.rom_frame.specs.Frames.{frames}
use Rattle.rom_frame.specs.Heads as heads
use Rattle.rom_frame.specs.declared.head.Head.{Head}
use Rattle.rom_frame.specs.declared.head.HeapName.{HeapName}
use Rattle.rom_name.specs.Heading.{IsHeadOf}
use Rattle.rom_name.specs.Identities.{WritesName}
use Rattle.rom_store.specs.Callers.{Caller}
use Rattle.rom_store.specs.Sessions.{EachStory, SessionSeen}
use Rattle.rom_talk.specs.Promise.{ShippingPromise}
use Rattle.rom_ship.specs.Streams.{shown_stream, sunk}
use Rattle.rom_ship.specs.declared.stream.FrameStream.{FrameStream}

-- the bytes of the head, where there is one
abbrev pub head_text : Option Head → List ℕ
head_text (Some h) = heads.head h
head_text None = []

module _ {D W : Type 0} (shown : ShownDevice D) (sink : ShownSink W) where
  -- Behind this head, where there is one, the stream was given the frames of a session's history: the sink has taken all of that, or, once a write has failed, some of it from its front. The head says where the history begins.
  pub record IsStreamed {S : Type 0} (given : W) (left : FrameStream W) (head : Option Head) (story : Story S) : Type 0 where
    pub first : IsTrue shown.tells_words → IsSomeAnd head (λ h. h.first ≡ story.opening_count)
    pub bytes : Ships (sunk sink given false) ((shown_stream sink).state left) (head_text head ++ frames story.opening_count story.history)

-- of a program's object, device, peers, output and sink of frames, and how lines and results are written
module _ {S C Q R A D P K W : Type 0} (machine : Machine S C Q R A) (Contents : ℕ → List ℕ → S → ℕ → Type 0) (kind : ℕ) (Rejects : ℕ → List ℕ → Unfit → Type 0) (earlier : Earlier S) (shown : ShownDevice D) (peer : ShownPeer Caller P) (out : ShownSink K)
    (texts : Texts R A) (Reads : List ℕ → Step C Q → Type 0) (sink : ShownSink W) (drawn : HeapName) (was now : D) (before after : List P) (old new : K) (status : ℕ) (session : Option SessionSeen) (given : W) (left : FrameStream W) where
  -- The head of what the heap does from then on was read, if one stands there: no call of the device failed, and what the head says is certain.
  pub record IsHeadRead (met : D) (head : Option Head) : Type 0 where
    pub is : IsHeadOf shown drawn was met head
    pub unfailed : shown.faults met ≡ shown.faults was
    pub certain : IfSome head (λ h. IsSynced shown met)

  -- No peer is met: it ends with this status, and the output is told this line.
  pub record IsUnmet (met : D) (begun : FrameStream W) (number : ℕ) (line : List ℕ) : Type 0 where
    pub status_is : status ≡ number
    pub told : IsLineWrittenOrCutShort out old new line
    pub rest : out.rest new ≡ out.rest old
    pub device : now ≡ met
    pub peers : after ≡ before
    pub none : IsNone session
    pub stream : left ≡ begun

  -- The device failed under the reading of the head.
  abbrev pub IsTalkUnread : D → FrameStream W → Type 0
  IsTalkUnread met begun = FailedLast (shown.faults was) (shown.faults met) (shown.failing met) × IsUnmet met begun 7 (codes "device failed")

  -- The head was not taken whole.
  abbrev pub IsTalkUnled : D → Option Head → FrameStream W → Type 0
  IsTalkUnled met head begun = IsSome head × (((shown_stream sink).state begun).failing ≡ true) × IsUnmet met begun 5 (codes "no stream")

  -- The stream has begun: it ends as a talk that ships, which tells why where there is no heap, and then no peer is met either.
  abbrev pub IsTalkHad : D → FrameStream W → Type 0
  IsTalkHad met begun = (((shown_stream sink).state begun).failing ≡ false) × ShippingPromise machine Contents kind Rejects earlier shown peer out texts Reads (shown_stream sink) met now before after old new status session begun left

  -- Peers talk to the heap of a device, its head is streamed and then each update that is done, and it ends so.
  pub record StreamingPromise : Type 0 where
    -- the device behind the reading of the head: at most a name that it lacked is new
    pub met : D
    pub named : Does shown (WritesName drawn) was met
    -- the head, and the stream behind it
    pub head : Option Head
    pub begun : FrameStream W
    pub led : Ships (sunk sink given false) ((shown_stream sink).state begun) (head_text head)
    -- the head was not read, or not taken whole, or the talk was had
    pub ends : IsTalkUnread met begun ⊎ (IsHeadRead met head × (IsTalkUnled met head begun ⊎ IsTalkHad met begun))
    -- the stream of each session
    pub streamed : IfSome session (λ s. EachStory machine Contents s (IsStreamed shown sink given left head))
