-- A stream that was followed, as the story of its session tells of it.
use Rattle.std.proofs.Common.{◌≡◌, ℕ, List, [], ◌∷◌, length, sym, ap, ◌∙◌, subst, arith}
use Rattle.std.specs.Prelude.{get_or, slice_set, IfOk, IfSome, IsTrue, Option, Some, None, Result, Ok, Err}
use Rattle.std.specs.List.{AllByRecursion}
use Rattle.rom_device.specs.Device.{ShownDevice}
use Rattle.rom_run.specs.Working.{HasSession}
use Rattle.rom_run.specs.declared.heap.Heap.TheVariants.{Standing}
use Rattle.rom_replica.specs.Promise.{OfOne}
use Rattle.rom_model.specs.History.{IsLegal}
use Rattle.rom_model.specs.Leaving.{IsClosed}
use Rattle.rom_model.specs.Machine.{on_words}
use Rattle.rom_model.specs.Region.{Contents}
use Rattle.rom_model.specs.State.{State}
use Rattle.rom_model.specs.Story.{Story}
use Rattle.rom_model.specs.Trio.{trio}
use Rattle.rom_model.specs.declared.entry.Entry.{Entry}
use Rattle.rom_model.specs.declared.kept.Kept.{Kept}
use Rattle.rom_model.specs.declared.record.PassRecord.{PassRecord}
use Rattle.rom_rule.specs.Views.{Told}
use Rattle.rom_run.proofs.Lasting.{session_lasts}
use Rattle.rom_store.specs.Moments.{LastsFor}
use Rattle.rom_store.specs.Sessions.{EachStory, IsStoryOf, SessionSeen}
use Rattle.rom_text.specs.Streams.{ShownSource}
use Rattle.rom_follow.specs.Closing.{ArePassesOf}
use Rattle.rom_replica.specs.Following.{HasClosed, IsStreamFollowed}
use Rattle.rom_replica.specs.Tallied.{WasFollowed}
use Rattle.rom_replica.specs.declared.stop.Stop.{Stop}
use Rattle.rom_replica.specs.declared.tally.Tally.{Tally}

pub followed_by : {X : Type 0} (source : ShownSource X) (was now : X) (tally : Tally) (stop : Stop) (session : SessionSeen) (story : Story State) →
    HasClosed source was now tally stop session → IsStoryOf trio Contents session story → IsClosed trio story 1 → IsStreamFollowed source was now tally stop session.callers story
followed_by source was now tally stop session story left of closed =
    let f = left.follower in
    let d = left.done story.opening story.opening_count of.opening in
    let stream : WasFollowed source stop story.opening_count was now f tally = subst (λ (n : ℕ). WasFollowed source stop n was now f tally) d.0 left.stream in
    let same : story.history ≡ f.history = of.history ∙ left.history in
    record {
      frames = stream.frames;
      part = stream.part;
      of_words = stream.of_words;
      read = stream.read;
      entries = stream.entries;
      tries = stream.tries;
      stopped = stream.stopped;
      tally_is = stream.tally_is;
      history = same ∙ stream.history;
      legal = subst (λ (z : ℕ × List Entry). IsLegal (on_words trio) z.0 story.opening story.opening_count z.1) (λ i. (sym of.order_is i, sym same i)) d.1.legal;
      within = let many : length story.history ≡ length f.history = ap length same in omega (arith, d.1.count_is, d.1.within, many);
      recorded = closed.recorded;
      passes = subst (λ (z : List PassRecord × List Told). ArePassesOf z.0 z.1) (λ i. (sym of.records i, stream.tried i)) left.passes;
      own = left.kept.own;
      only = left.kept.only;
      number = left.kept.number;
      seen = left.kept.seen ∙ sym same;
      told = left.kept.told ∙ stream.tried;
    }

-- an answer that is a value tells of it what follows too
pub if_ok : {T E : Type 0} (P Q : T → Type 0) (r : Result T E) → ((value : T) → P value → Q value) → IfOk r P → IfOk r Q
if_ok P Q (Ok value) weaker is = weaker value is
if_ok P Q (Err why) weaker is = tt

-- the one source that there is was changed
pub only_one : {X : Type 0} (P : X → X → Type 0) (xs : List X) (x now : X) → length xs ≡ 1 → P (get_or xs 0 x) now → OfOne xs (slice_set xs 0 now) P
only_one P [] x now one is = let no : 0 ≡ 1 = one in absurd (omega (arith, no))
only_one P (y ∷ []) x now one is = is
only_one P (y ∷ z ∷ zs) x now one is = absurd (omega (arith, one))

pub of_one : {X : Type 0} (P Q : X → X → Type 0) (xs ys : List X) → ((x y : X) → P x y → Q x y) → OfOne xs ys P → OfOne xs ys Q
of_one P Q (x ∷ []) (y ∷ []) weaker is = weaker x y is
of_one P Q [] ys weaker is = absurd is
of_one P Q (x ∷ z ∷ zs) ys weaker is = absurd is
of_one P Q (x ∷ []) [] weaker is = absurd is
of_one P Q (x ∷ []) (y ∷ z ∷ zs) weaker is = absurd is

-- what is told of each story of a session tells what follows too
pub told_by : {D : Type 0} (shown : ShownDevice D) (was now : D) (session : SessionSeen) (P Q : List Kept → Story State → Type 0) → ((story : Story State) → IsStoryOf trio Contents session story → P session.callers story → Q session.callers story) →
    HasSession trio Contents shown Standing was now P session → HasSession trio Contents shown Standing was now Q session
told_by shown was now session P Q weaker is = record { story = is.story; each = is.each; certain = is.certain; told = λ story of. weaker story of (is.told story of) }

-- what the follower was told lasts
pub follower_lasts : {D : Type 0} (shown : ShownDevice D) (now : D) → ((d : D) (i : List ℕ) → IsTrue shown.tells_images → shown.left_since d (shown.clock d) i → shown.leaves d i) → (was : D) (P : List Kept → Story State → Type 0) (session : Option SessionSeen) →
    IfSome session (HasSession trio Contents shown Standing was now P) → IfSome session (λ s. EachStory trio Contents s (λ story. AllByRecursion (LastsFor shown Contents (on_words trio) story now) s.callers))
follower_lasts shown now only_now was P None told = tt
follower_lasts shown now only_now was P (Some s) told = session_lasts trio Contents shown now only_now was P Standing s told
