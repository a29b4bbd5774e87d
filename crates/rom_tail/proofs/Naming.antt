-- Whose frames are done where a stream with a name is followed.
use Rattle.std.proofs.Common.{◌≡◌, ◌≢◌, ◌⊎◌, ℕ, Bool, true, false, List, Option, Some, None, IfSome, IsSome, IsTrue, inl, inr, refl, sym, subst}
use Rattle.std.specs.Prelude.{if◌then◌else◌}
use Rattle.rom_model.specs.Region.{Contents}
use Rattle.rom_model.specs.State.{State}
use Rattle.rom_model.specs.Story.{Story}
use Rattle.rom_model.specs.Trio.{trio}
use Rattle.rom_model.specs.declared.kept.Kept.{Kept}
use Rattle.rom_device.specs.Device.{ShownDevice}
use Rattle.rom_header.specs.Held.{Holds}
use Rattle.rom_header.specs.Regions.{IsHeap}
use Rattle.rom_text.specs.Runs.{IsCutShort, IsWhollyWritten}
use Rattle.rom_text.specs.Streams.{ShownSink, ShownSource, StopsWriting}
use Rattle.rom_name.specs.Greetings.{IsCarriedOut, IsGreeted, IsMet}
use Rattle.rom_name.specs.Peeked.{IsFirst}
use Rattle.rom_name.specs.Telling.{IsPrintedOr5}
use Rattle.rom_name.specs.declared.count.Own.{Own}
use Rattle.rom_name.specs.declared.greeting.Greeting.{Greeting}
use Rattle.rom_name.specs.declared.greeting.Greeting.TheVariants as greeting
use Rattle.rom_name.specs.declared.meeting.Meeting.{Meeting}
use Rattle.rom_name.specs.declared.meeting.Meeting.TheVariants.{Follow, Take, Raise, Refused}
use Rattle.rom_name.specs.declared.meeting.Refusal.{Refusal}
use Rattle.rom_name.specs.declared.meeting.Refusal.TheVariants.{Nameless}
use Rattle.rom_name.specs.declared.peeked.First.{First}
use Rattle.rom_name.specs.declared.peeked.First.TheVariants as first
use Rattle.rom_name.specs.declared.peeked.Peeked.{Peeked}
use Rattle.rom_run.specs.Working.{HasSession}
use Rattle.rom_run.specs.declared.heap.Heap.TheVariants.{Standing}
use Rattle.rom_store.specs.Sessions.{SessionSeen}
use Rattle.rom_replica.specs.Promise.{OfOne}
use Rattle.rom_replica.proofs.Closed.{of_one}
use Rattle.rom_tail.specs.Named.{EndsBy, IsMetBy, IsReady, IsTakenFrom, MayTake, NamedPromise}

-- a text that is printed or cut short ends at a write that failed
pub writing_printed : {K : Type 0} (sink : ShownSink K) (wanted : ℕ) (text : List ℕ) (old new : K) (status : ℕ) → IsPrintedOr5 sink wanted text old new status → StopsWriting sink old new
writing_printed sink wanted text old new status (inl whole) = inl whole.1.1
writing_printed sink wanted text old new status (inr cut) = inr cut.1.1

-- there is a session, or none
no_session : (session : Option SessionSeen) → session ≡ None → IsSome session → ⊥
no_session session none some = let never : false ≡ true = subst IsSome none some in cc

module _ {D : Type 0} (shown : ShownDevice D) where
  -- what is followed may be
  may_take : (own : Own) (f : First) (met : Meeting) (old new : D) → IsMet false own f met → IsCarriedOut shown met old new greeting.Followed → MayTake own f
  may_take own (first.Headed h) Follow old new is done = inl is
  may_take own (first.Headed h) (Take identity) old new is done = inr (inr is.0)
  may_take own (first.Headed h) (Raise epoch since) old new is done = inr (inl is.0)
  may_take own (first.Headed h) (Refused why) old new is done = absurd (let never : greeting.Followed ≡ greeting.Refused why = done.0 in cc)
  may_take own first.Headless met old new (inl allowed) done = absurd (let never : false ≡ true = allowed.0 in cc)
  may_take own first.Headless met old new (inr nameless) done =
      absurd (let never : greeting.Followed ≡ greeting.Refused Nameless = (subst (λ (m : Meeting). IsCarriedOut shown m old new greeting.Followed) nameless.1 done).0 in cc)
  may_take own first.Empty met old new is done = tt
  may_take own first.Failed met old new is done = absurd is

  -- a fact of words that are told
  of_told : (b : Bool) (words : List ℕ) (P : List ℕ → Type 0) → IfSome (if b then Some words else None) P → IsTrue b → P words
  of_told true words P is told = is
  of_told false words P is told = absurd (let never : false ≡ true = told in cc)

  -- where there is a session, a heap stands
  stands : (was now : D) (P : List Kept → Story State → Type 0) (session : Option SessionSeen) → IfSome session (HasSession trio Contents shown Standing was now P) → IsSome session → IsTrue shown.tells_words → (order : ℕ) × IsHeap order (shown.words was)
  stands was now P None is some told = absurd (no_session None refl some)
  stands was now P (Some s) is some told =
      let story = is.story.0 in
      let held : Holds Contents story.order (shown.words was) story.opening story.opening_count =
      of_told shown.tells_words (shown.words was) (λ words. Holds Contents story.order words story.opening story.opening_count) (is.each story is.story.1).opening told in
      (story.order, held.current.heap)

  module _ {S : Type 0} {bound : _} (source : ShownSource S) (missing : S) (was met : D) where
    taken_from : (x y : Peeked S bound) → IsTrue shown.tells_words → (order : ℕ) × IsHeap order (shown.words met) → IsMetBy shown source missing was met x y greeting.Followed → IsTakenFrom shown source was x y
    taken_from x y told (order, heap) m = by_greeting m.greeted
      where
        by_greeting : IsGreeted shown (IsFirst source) false was met x m.behind greeting.Followed → IsTakenFrom shown source was x y
        by_greeting (inl unmet) = absurd (unmet.none told order (subst (IsHeap order) (unmet.device.words told) heap))
        by_greeting (inr so) = record {
          own = so.own;
          own_is = so.own_is told;
          first = so.first;
          first_is = subst (λ (p : Peeked S bound). IsFirst source so.first x p) (sym m.ready_is) so.first_is;
          may = may_take so.own so.first so.met was met so.met_is so.done;
        }

    pub whose_of : {K : Type 0} (sink : ShownSink K) (now : D) (inputs ready left : List (Peeked S bound)) (old new : K) (status : ℕ) (session : Option SessionSeen) (refusal : Option Refusal) (g : Greeting) →
        OfOne inputs ready (λ x y. IsMetBy shown source missing was met x y g) → EndsBy shown source sink met now ready left old new status session refusal g →
        IsTrue shown.tells_words → IsSome session → (g ≡ greeting.StreamFailed) ⊎ OfOne inputs ready (IsTakenFrom shown source was)
    whose_of sink now inputs ready left old new status session refusal greeting.Followed m is told some =
        inr (of_one _ (IsTakenFrom shown source was) inputs ready (λ x y one. taken_from x y told (stands met now _ session is.1.story some told) one) m)
    whose_of sink now inputs ready left old new status session refusal (greeting.Refused why) m is told some = absurd (no_session session is.1.none some)
    whose_of sink now inputs ready left old new status session refusal greeting.StreamFailed m is told some = inl refl
    whose_of sink now inputs ready left old new status session refusal greeting.DeviceFailed m is told some = absurd (no_session session is.1.none some)

    -- one that did not fail stays
    pub stays_ready : (p : Peeked S bound) (g : Greeting) → g ≢ greeting.StreamFailed → IsReady shown source missing p p g
    stays_ready p greeting.Followed not = refl
    stays_ready p (greeting.Refused why) not = refl
    stays_ready p greeting.StreamFailed not = absurd (not refl)
    stays_ready p greeting.DeviceFailed not = refl

    module _ {K : Type 0} (sink : ShownSink K) (now : D) (inputs given ready found left : List (Peeked S bound)) (old new : K) (status : ℕ) (session : Option SessionSeen) (refusal : Option Refusal) (g : Greeting) where
      abbrev EndsSo : Greeting → Type 0
      EndsSo h = EndsBy shown source sink met now ready left old new status session refusal h

      -- what is followed, or has another in its place
      pub goes_on : (g ≡ greeting.Followed) ⊎ (g ≡ greeting.StreamFailed) → EndsSo greeting.Followed → EndsSo g
      goes_on (inl is) tailed = subst EndsSo (sym is) tailed
      goes_on (inr is) tailed = subst EndsSo (sym is) tailed

      pub named_by : given ≡ inputs → ready ≡ found → OfOne given found (λ x y. IsMetBy shown source missing was met x y g) → EndsSo g → StopsWriting sink old new → sink.rest new ≡ sink.rest old →
          NamedPromise shown source sink missing was now inputs left old new status session refusal
      named_by same kept m ended writing rest =
          let here : OfOne inputs ready (λ x y. IsMetBy shown source missing was met x y g) =
          subst (λ (z : List (Peeked S bound) × List (Peeked S bound)). OfOne z.0 z.1 (λ x y. IsMetBy shown source missing was met x y g)) (λ j. (same j, sym kept j)) m in
          record {
            met = met;
            ready = ready;
            greeting = g;
            meeting = here;
            ended = ended;
            whose = whose_of sink now inputs ready left old new status session refusal g here ended;
            writing = writing;
            rest = rest;
          }
