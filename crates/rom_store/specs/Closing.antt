-- What contracts see of a store that is closed.
use Rattle.std.specs.Prelude.{◌≡◌, ◌⊎◌, ℕ, ◌+◌, ◌≤◌, IsTrue, List, [], ◌∷◌, ◌++◌, length, Option}
use Rattle.atomic_table.specs.Seated.{TableId}
use Rattle.rom_model.specs.Machine.{Machine, on_words}
use Rattle.rom_model.specs.Passes.{faults_after}
use Rattle.rom_model.specs.VecSpace.{words_of_space}
use Rattle.rom_model.specs.declared.kept.Kept.{Kept}
use Rattle.rom_device.specs.Device.{ShownDevice}
use Rattle.rom_combine.specs.Costs.{WithinHeap}
use Rattle.rom_combine.specs.Session.{ImageNow, SessionImage}
use Rattle.rom_lr.specs.Seats.{plan, writer_view}
use Rattle.rom_lr.specs.declared.seats.WriterSeat.{WriterSeat}
use Rattle.rom_rule.specs.Readers.{Held}
use Rattle.rom_rule.specs.Views.{base_of, kept_of}
use Rattle.rom_rule.specs.declared.law.Key.{Key}
use Rattle.rom_rule.specs.declared.views.Base.{Base}
use Rattle.rom_store.specs.Callers.{Caller}
use Rattle.rom_store.specs.Sessions.{EachStory, HasStory, SessionSeen}
use Rattle.rom_store.specs.Start.{HasStarted, Start}
use Rattle.rom_store.specs.Traced.{WentThrough}
use Rattle.rom_store.specs.declared.begun.Begun.{Begun}

-- the device, and what the session was
pub record ClosedSeen (D : Type 0) : Type 0 where
  pub device : D
  pub session : SessionSeen

-- what a caller keeps
abbrev pub kept_in : Caller → Kept
kept_in p = kept_of p.view

-- what the writer keeps of these callers once it has taken them in: of each what it keeps, and what it had learnt of others
abbrev pub joined_of : List Caller → List Kept
joined_of [] = []
joined_of (p ∷ ps) = kept_in p ∷ p.view.joined ++ joined_of ps

-- The writer is of this table, main stands for the history, and the count is the one after it.
pub record IsClosedStore {S : Type 0} (Contents : ℕ → List ℕ → S → ℕ → Type 0) (step : ℕ → S → ℕ → List ℕ → Option (S × List ℕ)) (table : TableId) (key : Key) (seat : WriterSeat) (begun : Begun) (count : ℕ) : Type 0 where
  pub of : (seat.token.table_id ≡ table) × ((writer_view seat).base ≡ base_of key)
  pub order_is : begun.order ≡ (base_of key).order
  pub image_is : words_of_space begun.image.value ≡ (base_of key).image
  pub formed : (s : S) × (k : ℕ) × Contents begun.order (words_of_space begun.image.value) s k
  pub held : (s : S) (k : ℕ) → Contents begun.order (words_of_space begun.image.value) s k → Held Contents step (base_of key) s k (plan seat).main (plan seat).history
  pub count_is : (s : S) (k : ℕ) → Contents begun.order (words_of_space begun.image.value) s k → count ≡ k + length (plan seat).history

-- Each image that might have been left since a moment by now could be left by the start, or has P; and none is forgotten.
pub record HasLeftSince {D : Type 0} (shown : ShownDevice D) (start : Start) (test : ℕ → List ℕ → Type 0) (P : List ℕ → Type 0) (now : D) : Type 0 where
  pub later : start.clock ≤ shown.clock now
  pub nothing_else : (t : ℕ) (i : List ℕ) → shown.left_since now t i → test t i ⊎ P i
  pub keeps : (t : ℕ) (i : List ℕ) → t ≤ start.clock → test t i → shown.left_since now t i

-- What a closing makes of a store with this opening and this start of its device; the test tells which images a stop at some moment since another one might have left by the start.
pub record IsClosedFrom {D S C Q R A : Type 0} (shown : ShownDevice D) (machine : Machine S C Q R A) (Contents : ℕ → List ℕ → S → ℕ → Type 0) (base : Base) (start : Start) (test : ℕ → List ℕ → Type 0) (closed : ClosedSeen D) : Type 0 where
  pub order : closed.session.order ≡ base.order
  pub image : closed.session.image ≡ base.image
  pub opening_faults : closed.session.faults ≡ base.faults
  -- the session has a story, so what is said of each of its stories is said of one at least
  pub story : HasStory machine Contents closed.session
  -- each image that a stop leaves now holds the published history, or that followed by the batch in doubt
  pub now : IsTrue shown.tells_images → EachStory machine Contents closed.session (λ story. (i : List ℕ) → shown.leaves closed.device i → ImageNow Contents (on_words machine) story i)
  -- each image that a stop might have left by now could be left by the start, or is one of the session
  pub since : IsTrue shown.tells_images → EachStory machine Contents closed.session (λ story. HasLeftSince shown start test (SessionImage Contents (on_words machine) story) closed.device)
  -- the device went through the passes of the records, one after another, from the start on
  pub went : EachStory machine Contents closed.session (λ story. WentThrough shown Contents (on_words machine) story (HasStarted shown base.faults start test) closed.device)
  pub size : shown.size closed.device ≡ start.size
  -- of the device's words only the state and the two regions of the heap may differ from those at the start
  pub outside : IsTrue shown.tells_words → WithinHeap base.order start.words (shown.words closed.device)
  -- the count of faults after the last record, or at the opening where there is none, is not above the device's
  pub faults : faults_after closed.session.faults closed.session.records ≤ shown.faults closed.device
