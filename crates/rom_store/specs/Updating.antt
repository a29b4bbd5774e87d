-- What an update leaves.
use Rattle.std.specs.Prelude.{◌≡◌, ◌≢◌, Bool, ℕ, ◌+◌, ◌-◌, ◌<◌, ◌≤◌, List, [], ◌∷◌, ◌++◌, length, slice_get, slice_index_or, Option, Some}
use Rattle.std.specs.Bool.{OnFalse, OnTrue}
use Rattle.atomic_table.specs.Seated.{TableId}
use Rattle.rom_model.specs.History.{IsLegal, LAST_COUNT, after, batch}
use Rattle.rom_model.specs.Lawful.{as_words}
use Rattle.rom_model.specs.Machine.{Machine, on_words}
use Rattle.rom_model.specs.Seen.{StartsWith, next_call}
use Rattle.rom_model.specs.Undone.{SPENT, FAILED, DOUBT}
use Rattle.rom_model.specs.declared.call.Updated.{Updated}
use Rattle.rom_model.specs.declared.call.Updated.TheVariants as updated
use Rattle.rom_model.specs.declared.entry.Entry.{Entry}
use Rattle.rom_model.specs.declared.record.Found.{Found}
use Rattle.rom_lines.specs.declared.results.Became.{Became}
use Rattle.rom_lines.specs.declared.results.Became.TheVariants as became
use Rattle.rom_lines.specs.declared.results.Undone.TheVariants as undone
use Rattle.rom_lr.specs.Seats.{IsSameSeat, view}
use Rattle.rom_lr.specs.declared.seats.Seat.{Seat}
use Rattle.rom_rule.specs.CallKinds.{IsToldByPass}
use Rattle.rom_rule.specs.Records.{KnowsEntries, KnowsMoments}
use Rattle.rom_rule.specs.Views.{Told, kept_of}
use Rattle.rom_rule.specs.declared.views.Base.{Base}
use Rattle.rom_rule.specs.declared.views.View.{View}
use Rattle.rom_store.specs.Callers.{Caller, IsCallerOf, IsDatedBy, IsSameCaller}
use Rattle.rom_store.specs.Reading.{OnlySteps}

-- what became of an update, and the word that it is told by: its place, which is none of the codes, or the code
abbrev pub Says : Became → ℕ → Type 0
Says (became.Done place) word = (place ≡ word) × (word ≢ SPENT) × (word ≢ FAILED) × (word ≢ DOUBT)
Says (became.Undone undone.Spent) word = word ≡ SPENT
Says (became.Undone undone.Failed) word = word ≡ FAILED
Says (became.Undone undone.Doubt) word = word ≡ DOUBT

-- After some steps the caller was told what became of the call that it has posted, and nothing else of its view has changed but what it has seen, and its moments, which are those of what it has seen and begin with those that it knew.
pub record HasBeenTold {S : Type 0} (Contents : ℕ → List ℕ → S → ℕ → Type 0) (step : ℕ → S → ℕ → List ℕ → Option (S × List ℕ)) (v w : View) : Type 0 where
  pub told : Told
  pub found : told.0 ≡ record { caller = v.number; seq = length v.outcomes; args = slice_index_or v.calls (length v.outcomes) [] }
  pub is_told : IsToldByPass Contents step v.base told v.since v.seen w.seen
  pub knows : (s : S) (k : ℕ) → Contents v.base.order v.base.image s k → KnowsEntries v.base.callers k w
  pub view : w ≡ record v { outcomes = v.outcomes ++ told ∷ []; seen = w.seen; moments = w.moments; steps = w.steps }
  pub moments_begin : StartsWith w.moments v.moments
  pub dated : KnowsMoments Contents step v.base w.seen w.moments

-- What a caller has seen once its update is done: a legal history, which ends with the batch of a pass that found the update and has the update's entry at its place, past all that the caller had seen before.
pub record IsDoneIn {S : Type 0} (step : ℕ → S → ℕ → List ℕ → Option (S × List ℕ)) (order : ℕ) (s : S) (k : ℕ) (update : Found) (reply : List ℕ) (place : ℕ) (before seen : List Entry) : Type 0 where
  pub legal : IsLegal step order s k seen
  pub earlier : List Entry
  pub found : List Found
  pub ends : seen ≡ earlier ++ batch step order (after step order s k earlier) (k + length earlier) found
  pub own : (i : ℕ) × (slice_get found i ≡ Some update)
  pub past : k + length before ≤ place
  pub entry : slice_get seen (place - k) ≡ Some record { caller = update.caller; seq = update.seq; args = update.args; reply = reply }

-- A look at the turn of a posted call: whether it is answered. Where it is, the caller was told what became of it, and else only the number of its steps has changed.
pub record HasLooked {S : Type 0} (Contents : ℕ → List ℕ → S → ℕ → Type 0) (step : ℕ → S → ℕ → List ℕ → Option (S × List ℕ)) (answered : Bool) (was now : Seat) : Type 0 where
  pub same : IsSameSeat was now
  pub not_yet : OnFalse answered (OnlySteps (view was) (view now))
  pub told : OnTrue answered (HasBeenTold Contents step (view was) (view now))

-- A caller of the store with this table has called for an update with these words, and this became of it.
pub record HasUpdated {S C Q R A : Type 0} (m : Machine S C Q R A) (Contents : ℕ → List ℕ → S → ℕ → Type 0) (table : TableId) (base : Base) (words : List ℕ) (answer : Updated R) (was now : Caller) : Type 0 where
  pub of : IsCallerOf Contents table base now
  pub same : IsSameCaller was now
  -- what it has now seen begins with all that it had seen
  pub later : StartsWith now.view.seen was.view.seen
  pub fronts : now.view.fronts ≡ was.view.fronts
  pub joined : now.view.joined ≡ was.view.joined
  -- a caller that was told of 2^62 calls already is told `Spent`, and what it knows stays as it was
  pub unposted : LAST_COUNT ≤ length was.view.outcomes → (answer ≡ updated.Spent) × (now ≡ was)
  -- else the call is posted: its words follow those of the caller's earlier calls
  pub posted : length was.view.outcomes < LAST_COUNT → now.view.calls ≡ was.view.calls ++ words ∷ []
  -- then the caller keeps, behind what it was told before, this call and what is answered here
  pub told : length was.view.outcomes < LAST_COUNT → now.view.outcomes ≡ was.view.outcomes ++ (next_call (kept_of was.view) words, as_words m answer) ∷ []
  -- what one pass told of it, in whose record the device's counts of faults stand
  pub taken : length was.view.outcomes < LAST_COUNT →
      IsToldByPass Contents (on_words m) base (next_call (kept_of was.view) words, as_words m answer) (length was.view.seen) was.view.seen now.view.seen
  -- then it knows the moments at which what it has seen was committed, the place of this call among it where it is done; and those that it knew stay as they were
  pub dated : length was.view.outcomes < LAST_COUNT → IsDatedBy Contents (on_words m) base was.view now.view
  -- where it is done, the caller has seen a legal history that ends with the batch of that pass and has the update's entry at its place
  pub done : (s : S) (k : ℕ) → Contents base.order base.image s k → (reply : R) (place : ℕ) → answer ≡ updated.Done reply place →
      IsDoneIn (on_words m) base.order s k (next_call (kept_of was.view) words) (m.reply_words reply) place was.view.seen now.view.seen
