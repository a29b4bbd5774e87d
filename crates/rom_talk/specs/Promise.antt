-- What a heap that converses promises.
use Rattle.std.specs.Prelude.{◌≡◌, ◌⊎◌, ◌==◌, ℕ, Bool, if◌then◌else◌, List, map, slice_get, Option, Some, IsSome, IsNone, IfSome, IsTrue}
use Rattle.std.specs.List.{AllByRecursion}
use Rattle.rom_model.specs.Earlier.{Earlier}
use Rattle.rom_model.specs.Faults.{Rose}
use Rattle.rom_model.specs.Machine.{Machine, on_words}
use Rattle.rom_model.specs.declared.line.Step.{Step}
use Rattle.rom_model.specs.declared.unfit.Unfit.{Unfit}
use Rattle.rom_device.specs.Device.{ShownDevice}
use Rattle.rom_combine.specs.Costs.{IsUnfailed}
use Rattle.rom_combine.specs.Shipping.{Ships, ShownShipper, text_from, update_of}
use Rattle.rom_text.specs.Streams.{ShownSink, StopsWriting}
use Rattle.rom_text.specs.Text.{Texts}
use Rattle.rom_hear.specs.Peers.{ShownPeer}
use Rattle.rom_store.specs.Callers.{Caller}
use Rattle.rom_store.specs.Lasting.{HasLasted}
use Rattle.rom_store.specs.Moments.{LastsFor}
use Rattle.rom_store.specs.Sessions.{EachStory, SessionSeen}
use Rattle.rom_run.specs.Complete.{HasFewFaults, HoldsSome, IsRefusedByName}
use Rattle.rom_run.specs.Working.{HasNone, HasSession, IsDeviceKept}
use Rattle.rom_run.specs.declared.heap.Heap.TheVariants.{Standing}
use Rattle.rom_talk.specs.Talks.{HaveTalked, KeepToIt}

-- the statuses with which a talk may end
abbrev pub IsTalkStatus : ℕ → Type 0
IsTalkStatus status = (status ≡ 0) ⊎ (status ≡ 1) ⊎ (status ≡ 3) ⊎ (status ≡ 4) ⊎ (status ≡ 5) ⊎ (status ≡ 6) ⊎ (status ≡ 7)

-- With these the heap was opened, and a session is left. With 7 it may have been so.
abbrev pub HasMet : ℕ → Type 0
HasMet status = (status ≡ 0) ⊎ (status ≡ 1) ⊎ (status ≡ 4) ⊎ (status ≡ 5)

-- with these it was not, and none is left
abbrev pub HasNotMet : ℕ → Type 0
HasNotMet status = (status ≡ 3) ⊎ (status ≡ 6)

-- The status of a talk that alone leads to this one, by whether handing on has failed: then it is 5, but 7 stays.
abbrev pub shipping_status : ℕ → Bool → ℕ
shipping_status told failing = if failing then (if told == 7 then 7 else 5) else told

module _ {D P K : Type 0} (shown : ShownDevice D) (peer : ShownPeer Caller P) (sink : ShownSink K) where
  -- no count of faults rose, nor did one stand at its last value: the device's, the sink's, and those of each peer
  pub record NoneFailed (was now : D) (before after : List P) (old new : K) : Type 0 where
    pub of_device : Rose (shown.faults was) (shown.faults now) → ⊥
    pub of_sink : Rose (sink.faults old) (sink.faults new) → ⊥
    pub of_peers : (i : ℕ) (one other : P) → slice_get before i ≡ Some one → slice_get after i ≡ Some other → (Rose (peer.unheard one) (peer.unheard other) → ⊥) × (Rose (peer.unsaid one) (peer.unsaid other) → ⊥)

-- of a program's object, device, peers and sink, and how lines and results are written
module _ {S C Q R A D P K : Type 0} (machine : Machine S C Q R A) (Contents : ℕ → List ℕ → S → ℕ → Type 0) (kind : ℕ) (Rejects : ℕ → List ℕ → Unfit → Type 0) (earlier : Earlier S) (shown : ShownDevice D) (peer : ShownPeer Caller P) (sink : ShownSink K)
    (texts : Texts R A) (Reads : List ℕ → Step C Q → Type 0) where
  -- With 3 the heap is refused by name; and where it is, and no call of the device fails, it is 3, unless memory is short (6).
  pub record RefusesExactly (was now : D) (status : ℕ) : Type 0 where
    pub only : status ≡ 3 → IsRefusedByName Contents Rejects earlier Standing (shown.words was)
    pub always : IsRefusedByName Contents Rejects earlier Standing (shown.words was) → IsUnfailed shown was now → (status ≡ 3) ⊎ (status ≡ 6)

  -- Peers talk to the heap of a device, and it ends so.
  pub record TalkPromise (was now : D) (before after : List P) (old new : K) (status : ℕ) (session : Option SessionSeen) : Type 0 where
    -- the status, and where a session is left
    pub statuses : IsTalkStatus status
    pub met : HasMet status → IsSome session
    pub not_met : HasNotMet status → IsNone session
    -- the peers are told the results of one history, each its own and at once, and what a stop leaves is told by it
    pub story : IfSome session (HasSession machine Contents shown Standing was now (HaveTalked machine Contents shown peer texts Reads before after now status))
    -- each pass that added to the history was certain at its commit: no stop since then has left less of it
    pub lasting : IfSome session (λ s. EachStory machine Contents s (λ story. HasLasted shown Contents (on_words machine) story now))
    -- what each caller has seen at the end was committed at the moments that it knows, and lasts
    pub told_lasts : IfSome session (λ s. EachStory machine Contents s (λ story. AllByRecursion (LastsFor shown Contents (on_words machine) story now) s.callers))
    -- no more lines of a caller tell of a fault than the device counted
    pub few_faults : IfSome session (λ s. EachStory machine Contents s (HasFewFaults machine shown was now))
    -- else what a stop may leave, and why there is no heap to talk to, which the sink is told
    pub none : IsNone session → HasNone machine Contents shown sink kind Rejects earlier Standing was now old new status
    -- then no peer is met, heard or told anything
    pub unmet : IsNone session → after ≡ before
    -- and where there is one the sink is told nothing
    pub unprinted : IsSome session → new ≡ old
    -- the device keeps its length and, where it tells its words, those outside of the heap
    pub kept : IsDeviceKept shown Standing was now
    -- where the device tells its words, the status is 3 exactly where the heap is refused by name
    pub refused : IsTrue shown.tells_words → RefusesExactly was now status
    -- where they hold a heap, and no count of faults rises, all is done, or a line is none, or there was no memory
    pub complete : IsTrue shown.tells_words → HoldsSome Contents (shown.words was) → NoneFailed shown peer sink was now before after old new → (status ≡ 0) ⊎ (status ≡ 1) ⊎ (status ≡ 6)
    -- of no peer more is asked for after an asking that was in vain, and nothing is said to one that took no more
    pub peers : KeepToIt peer before after
    -- no write of the sink is made after one that failed, and what it has beside its bytes stays
    pub writing : StopsWriting sink old new
    pub rest : sink.rest new ≡ sink.rest old

-- so, and of who is handed what is done
module _ {S C Q R A D P K W : Type 0} (machine : Machine S C Q R A) (Contents : ℕ → List ℕ → S → ℕ → Type 0) (kind : ℕ) (Rejects : ℕ → List ℕ → Unfit → Type 0) (earlier : Earlier S) (shown : ShownDevice D) (peer : ShownPeer Caller P) (sink : ShownSink K)
    (texts : Texts R A) (Reads : List ℕ → Step C Q → Type 0) (ship : ShownShipper W) where
  -- Peers talk to the heap of a device, what is done is handed on, and it ends so.
  pub record ShippingPromise (was now : D) (before after : List P) (old new : K) (status : ℕ) (session : Option SessionSeen) (shipper left : W) : Type 0 where
    -- The status to which the talk alone leads. All that is promised of a talk holds with it: handing on changes nothing else.
    pub told : ℕ
    pub talk : TalkPromise machine Contents kind Rejects earlier shown peer sink texts Reads was now before after old new told session
    pub status_is : status ≡ shipping_status told (ship.state left).failing
    -- the text of the session's history was handed on, all of it, or some of it from its front and then handing on has failed
    pub shipped : IfSome session (λ s. EachStory machine Contents s (λ story. IsTrue ship.tells → Ships (ship.state shipper) (ship.state left) (text_from ship.text story.opening_count (map update_of story.history))))
    -- and nothing where there is none
    pub unshipped : IsNone session → left ≡ shipper
