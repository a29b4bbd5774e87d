-- The kinds of step. Each is one load, store or fetch_add of one word by one seat, and changes that seat's view alone; a view is cut in two or two are joined at a load of word 0. For each kind: who makes it and what it does; when it may be made, which is a condition on the seat's own view, or on the plan in it; and what it tells, which is the view after it. Each step adds one to the steps of the view that makes it. Here are the kinds by which readers read, the writer switches and changes a side, and seats are made and joined; those on posted calls stand in `CallKinds.antt`.
use Rattle.std.specs.Prelude.{◌≡◌, ◌≢◌, ℕ, ◌+◌, ◌<◌, ◌≤◌, List, [], ◌∷◌, ◌++◌, map, length, slice_index, slice_set, Option, Some, None, true, ◌==◌, if◌then◌else◌}
use Rattle.std.specs.List.{AllByRecursion}
use mathlib.Core.Option.{some}
use lib.ListN.{get_elem?}
use Rattle.atomic_table.specs.Table.{Me, Step}
use Rattle.rom_model.specs.Blocks.{region_len}
use Rattle.rom_model.specs.History.{after, batch}
use Rattle.rom_model.specs.Passes.{published, fate_told, faults_after}
use Rattle.rom_model.specs.Seen.{StartsWith}
use Rattle.rom_model.specs.declared.entry.Entry.{Entry}
use Rattle.rom_model.specs.declared.record.Fate.{Fate}
use Rattle.rom_model.specs.declared.record.Fate.TheVariants.{Published}
use Rattle.rom_model.specs.declared.record.Found.{Found}
use Rattle.rom_model.specs.declared.record.PassRecord.{PassRecord}
use Rattle.rom_rule.specs.Calls.{IsWhole, found_of, told_to_caller}
use Rattle.rom_rule.specs.Places.{back_word_at, indicator_at, indicator_count, indicator_of, main_word_at, side_at, side_word_at, version_at, version_of_indicator}
use Rattle.rom_rule.specs.Readers.{Held, IsHeldSinceOpening, Settled, stands}
use Rattle.rom_rule.specs.Records.{IsKeptInBook, KnowsEntries, KnowsMoments, Recorded}
use Rattle.rom_rule.specs.Views.{Each, IsWriter, Told, book_in, fresh_view, image_of, indicator_in, is_reading, kept_of, plan_of, side_of, side_read, version_of}
use Rattle.rom_rule.specs.declared.views.Base.{Base}
use Rattle.rom_rule.specs.declared.views.Plan.{Plan}
use Rattle.rom_rule.specs.declared.views.Position.{Position}
use Rattle.rom_rule.specs.declared.views.Position.TheVariants.{Arrived, Holds, Out, Reads}
use Rattle.rom_rule.specs.declared.views.Request.{Request}
use Rattle.rom_rule.specs.declared.views.View.{View}

-- a seat's view; no seat holds a value of the table
abbrev pub Seated : Type 0
Seated = Me ℕ View

-- the view after a step that changes its position alone
abbrev pub moved : View → Position → View
moved v p = record v { position = p; steps = v.steps + 1 }

-- A caller, a view with a number, loads `version`.
-- When: it is out.
abbrev pub IsOut : View → Type 0
IsOut v = (v.position ≡ Out) × (0 < v.number)

-- What a load of `version` tells: it is 0 or 1, and the caller holds it.
abbrev pub loaded_version : Step ℕ → Seated → ℕ → Seated → Type 0
loaded_version st m found m' = (st.word ≡ version_at) × (found < 2) × (m' ≡ (moved m.0 (Holds found), m.1))

-- A caller stores 1 in its indicator of the version that it has loaded.
-- When: it holds a version.
abbrev pub HoldsVersion : View → ℕ → Type 0
HoldsVersion v version = (v.position ≡ Holds version) × (version < 2) × (0 < v.number)

-- What the store of 1 tells: it was in the caller's own indicator of the version that it held, and the
-- caller has arrived there.
abbrev pub arrived : Step ℕ → Seated → ℕ → Seated → Type 0
arrived st m found m' = (st.word ≡ indicator_at (indicator_of m.0.number (version_of m.0.position))) × (m' ≡ (moved m.0 (Arrived (indicator_of m.0.number (version_of m.0.position))), m.1))

-- A caller loads `side`. What it has seen becomes a published history that begins with what it had seen, and its front is that history's count, which it keeps among its fronts. Its moments become those of this history. With no call posted, it knows which entries of that history are its own.
-- When: it has arrived.
abbrev pub HasArrived : View → ℕ → Type 0
HasArrived v k = (v.position ≡ Arrived k) × (k < indicator_count v.base.callers) × (0 < v.number)

-- the view as it begins to read a side: it has seen this history, committed at these moments, and has one front more
abbrev pub entering : View → ℕ → ℕ → ℕ → List ℕ → List Entry → List ℕ → View
entering v k side front image seen moments = record v { position = Reads k side front image; seen = seen; moments = moments; fronts = v.fronts ++ front ∷ []; steps = v.steps + 1 }

module _ {S : Type 0} (Contents : ℕ → List ℕ → S → ℕ → Type 0) (step : ℕ → S → ℕ → List ℕ → Option (S × List ℕ)) where
  -- What a load of `side` tells: the caller reads that side, whose words stand for the state after the
  -- history that it has seen now. Its moments begin with those that it knew.
  abbrev pub loaded_side : Step ℕ → Seated → ℕ → Seated → Type 0
  loaded_side st m found m' = (st.word ≡ side_at) × (front : ℕ) × (image : List ℕ) × (seen : List Entry) × (moments : List ℕ) × (found < 2) × StartsWith seen m.0.seen × IsHeldSinceOpening Contents step m.0.base image seen front
      × StartsWith moments m.0.moments × KnowsMoments Contents step m.0.base seen moments × (m' ≡ (entering m.0 (indicator_in m.0.position) found front image seen moments, m.1))
      × (length m.0.calls ≡ length m.0.outcomes → (s : S) (n : ℕ) → Contents m.0.base.order m.0.base.image s n → KnowsEntries m.0.base.callers n m'.0)

-- A caller loads a word of the side that it reads: it is the word of its image.
-- When: it reads.
abbrev pub IsReading : View → Type 0
IsReading v = (is_reading v.position ≡ true) × (0 < v.number)

-- What a load of a word of the side tells: it is the image's at that place, and the caller still reads.
abbrev pub loaded_image : Step ℕ → Seated → ℕ → Seated → Type 0
loaded_image st m found m' = (m' ≡ (moved m.0 m.0.position, m.1))
    × ((at : ℕ) → at < region_len m.0.base.order → st.word ≡ side_word_at m.0.base.order m.0.base.callers (side_read m.0.position) at → found ≡ slice_index (image_of m.0.position) at)

-- A caller stores 0 in its indicator.
-- When: it stands there.
abbrev pub StandsAt : View → ℕ → Type 0
StandsAt v k = (stands k v.position ≡ 1) × (k < indicator_count v.base.callers) × (0 < v.number)

-- What the store of 0 tells: it was in the indicator at which the caller stood, and the caller is out.
abbrev pub departed : Step ℕ → Seated → ℕ → Seated → Type 0
departed st m found m' = (st.word ≡ indicator_at (indicator_in m.0.position)) × (m' ≡ (moved m.0 Out, m.1))

-- the writer's view after a step to the plan p
abbrev pub planned : View → Plan → View
planned v p = record v { plan = Some p; steps = v.steps + 1 }

-- the plan after `side` was stored
abbrev pub switched : ℕ → Plan → Plan
switched side p = record p { side = side; clear = [] }

-- a pass has a record where it found a call
abbrev pub record_list : List Found → PassRecord → List PassRecord
record_list [] r = []
record_list (f ∷ fs) r = r ∷ []

-- The plan after this pass has its record: its batch from the count k is `more`, which was committed at this moment.
abbrev pub making : Fate → ℕ → ℕ → ℕ → ℕ → List Entry → Plan → Plan
making fate before after moment k more p = record p {
  history = p.history ++ published fate more;
  told = p.told ++ fate_told fate k (map found_of p.requests) more;
  mine = record_list (map found_of p.requests) record { found = map found_of p.requests; fate = fate; faults_before = before; faults_after = after; len = length p.history + length (published fate more); committed = moment };
}

-- what the record told each request is what its caller was told of it
abbrev pub TellsEach : Fate → ℕ → List Entry → Plan → Type 0
TellsEach fate k more p = (i : ℕ) (f : Request) (x : Told) → get_elem? p.requests i ≡ some f → get_elem? (fate_told fate k (map found_of p.requests) more) i ≡ some x
    → get_elem? (told_to_caller (p.told ++ fate_told fate k (map found_of p.requests) more) f.caller) f.seq ≡ some x

-- the plan after the count of faults was raised in this pass's record
abbrev pub with_faults_after : ℕ → PassRecord → PassRecord
with_faults_after faults r = record r { faults_after = faults }

-- the plan whose pass has this count of faults after it, where the pass has a record
abbrev pub raising : ℕ → Plan → Plan
raising faults p = record p { mine = map (with_faults_after faults) p.mine }

-- where this pass has a record, its count before stays, and its count after isn't lowered
abbrev pub MayRaise : ℕ → ℕ → List PassRecord → Type 0
MayRaise before after [] = Unit {0}
MayRaise before after (r ∷ []) = (before ≡ r.faults_before) × (r.faults_after ≤ after)
MayRaise before after (r ∷ q ∷ rs) = ⊥

module _ {S : Type 0} (Contents : ℕ → List ℕ → S → ℕ → Type 0) (step : ℕ → S → ℕ → List ℕ → Option (S × List ℕ)) where
  -- the batch of the requests, and the count where it begins
  abbrev pub IsBatch : Base → Plan → ℕ → List Entry → Type 0
  IsBatch b p k more = (s : S) (n : ℕ) → Contents b.order b.image s n → (k ≡ n + length p.history) × (more ≡ batch step b.order (after step b.order s n p.history) k (map found_of p.requests))

  -- The writer stores `side` as main. The history grows by the batch of the requests, and where there are any the pass has its record.
  -- When: the pass has no record yet, all words of its requests were loaded, and main stands for the history with that batch. The two numbers are the device's counts of faults at the pass's start and now: the first is at least that of the record before, or the opening's.
  pub record CanSwitchToMain (b : Base) (p : Plan) (before now : ℕ) : Type 0 where
    pub unmade : p.mine ≡ []
    pub whole : Each (λ _. IsWhole) p.requests
    pub from : faults_after b.faults p.records ≤ before
    pub on : before ≤ now
    pub start : S
    pub count : ℕ
    pub opening : Contents b.order b.image start count
    pub stands : (let k = count + length p.history in let more = batch step b.order (after step b.order start count p.history) k (map found_of p.requests) in Held Contents step b start count p.main (p.history ++ more))

  -- What a store of `side` as main tells: the history ends with the batch, and a pass that found calls has
  -- its record.
  abbrev pub switched_to_main : ℕ → ℕ → ℕ → Step ℕ → Seated → ℕ → Seated → Type 0
  switched_to_main before after moment st m found m' = (k : ℕ) × (more : List Entry) × IsBatch m.0.base (plan_of m.0) k more × TellsEach Published k more (plan_of m.0)
      × (m' ≡ (planned m.0 (switched 0 (making Published before after moment k more (plan_of m.0))), m.1))

  -- The writer stores `side` as back, and where the pass has a record, its count after becomes the one of now.
  -- When: back stands for the history, and that count isn't lowered.
  pub record CanSwitchToBack (b : Base) (p : Plan) (before now : ℕ) : Type 0 where
    pub raises : MayRaise before now p.mine
    pub start : S
    pub count : ℕ
    pub opening : Contents b.order b.image start count
    pub stands : Held Contents step b start count p.back p.history

-- What a store of `side` as back tells: `side` is back. The pass's record, if there is one, has this count
-- of faults after the pass.
abbrev pub switched_to_back : ℕ → Step ℕ → Seated → ℕ → Seated → Type 0
switched_to_back faults st m found m' = m' ≡ (planned m.0 (switched 1 (raising faults (plan_of m.0))), m.1)

-- The writer loads an indicator of one caller, and keeps that it was 0: then this caller doesn't read the side left after arriving there.
-- When: `version` names the other version.
abbrev pub CanCheck : View → ℕ → Type 0
CanCheck v k = IsWriter v (plan_of v) × (k < indicator_count v.base.callers) × ((plan_of v).version ≢ version_of_indicator k)

-- the plan after a load of indicator k: that it was 0 is kept, with what `version` was then
abbrev pub observed : ℕ → ℕ → Plan → Plan
observed k found p = if found == 0 then record p { clear = (k, p.version) ∷ p.clear } else p

-- What a load of an indicator tells: it is of the version that `version` does not name, and that it was 0
-- is kept.
abbrev pub checked_indicator : Step ℕ → Seated → ℕ → Seated → Type 0
checked_indicator st m found m' = (k : ℕ) → st.word ≡ indicator_at k → ((plan_of m.0).version ≢ version_of_indicator k) × (m' ≡ (planned m.0 (observed k found (plan_of m.0)), m.1))

-- The writer stores `version`.
-- When: the number is 0 or 1.
abbrev pub CanStoreVersion : View → ℕ → Type 0
CanStoreVersion v to = IsWriter v (plan_of v) × (to < 2)

-- What a store of `version` tells: the plan's `version` is the word stored.
abbrev pub stored_version : Step ℕ → Seated → ℕ → Seated → Type 0
stored_version st m found m' = m' ≡ (planned m.0 (record (plan_of m.0) { version = st.first }), m.1)

-- The writer loads a word of a side: it is the word of its plan.
-- When: always, by the writer.
abbrev pub loaded_region : Step ℕ → Seated → ℕ → Seated → Type 0
loaded_region st m found m' = (m' ≡ (planned m.0 (plan_of m.0), m.1))
    × ((side at : ℕ) → side < 2 → at < region_len m.0.base.order → st.word ≡ side_word_at m.0.base.order m.0.base.callers side at → found ≡ slice_index (side_of side (plan_of m.0).main (plan_of m.0).back) at)

-- The writer stores a word of main, or of back.
-- When: `side` names the other side, and all indicators were loaded as 0 since.
abbrev pub CanStore : View → ℕ → Type 0
CanStore v other = IsWriter v (plan_of v) × Settled v.base (plan_of v) × ((plan_of v).side ≡ other)

-- What a store of a word of main tells: the plan's main has the word there.
abbrev pub stored_main : Step ℕ → Seated → ℕ → Seated → Type 0
stored_main st m found m' = (at : ℕ) → at < region_len m.0.base.order → st.word ≡ main_word_at m.0.base.order m.0.base.callers at → m' ≡ (planned m.0 (record (plan_of m.0) { main = slice_set (plan_of m.0).main at st.first }), m.1)

-- What a store of a word of back tells: the plan's back has the word there.
abbrev pub stored_back : Step ℕ → Seated → ℕ → Seated → Type 0
stored_back st m found m' = (at : ℕ) → at < region_len m.0.base.order → st.word ≡ back_word_at m.0.base.order m.0.base.callers at → m' ≡ (planned m.0 (record (plan_of m.0) { back = slice_set (plan_of m.0).back at st.first }), m.1)

-- The writer's seat is cut in two, at the opening: the new seat gets the next caller's number.
-- When: there is a number left.
abbrev pub CanDeal : View → Type 0
CanDeal v = IsWriter v (plan_of v) × (v.position ≡ Out) × ((plan_of v).dealt < v.base.callers)

-- the writer's view once one more caller has its number
abbrev pub dealing : View → View
dealing v = planned v (record (plan_of v) { dealt = (plan_of v).dealt + 1 })

-- the view of a new caller: it has the next number, and has seen and done nothing
abbrev pub newcomer : View → View
newcomer v = record (fresh_view v.base) { number = (plan_of v).dealt + 1 }

-- A caller's seat is cut in two: the new one, a note, has seen as much, committed at the same moments, and nothing else.
-- When: it is out.
abbrev pub noting : View → View
noting v = record v { steps = v.steps + 1 }

-- the view of a note: it has seen as much as the caller, has no number, and has done nothing
abbrev pub note_of : View → View
note_of v = record (fresh_view v.base) { seen = v.seen; moments = v.moments }

-- A seat keeps what another knew, which is spent.
-- When: both are out, and the spent one has no call posted and isn't the writer's.
abbrev pub IsIdleView : View → Type 0
IsIdleView v = (v.position ≡ Out) × (length v.calls ≡ length v.outcomes)

-- what w knew may be kept by v: both are out, and w has no call posted and isn't the writer's
abbrev pub CanJoin : View → View → Type 0
CanJoin v w = (v.position ≡ Out) × IsIdleView w × (w.plan ≡ None)

-- view v once it keeps what view w knew, and what w had kept
abbrev pub informed : View → View → View
informed v w = record v { joined = v.joined ++ kept_of w ∷ w.joined; steps = v.steps + 1 }

-- the view that is left of a spent one: as if it had seen and done nothing
abbrev pub spent_as : Base → View
spent_as b = fresh_view b

module _ {S : Type 0} (Contents : ℕ → List ℕ → S → ℕ → Type 0) (step : ℕ → S → ℕ → List ℕ → Option (S × List ℕ)) where
  -- A caller loads word 0, and has seen from then on what it had seen and what each view had that it keeps. Its moments become those of this history, and begin with the ones that it knew and with those of each of these views. With no call posted, it knows its own entries in it, where it knew them before.
  -- When: it is out.
  abbrev pub caught_up : Step ℕ → Seated → ℕ → Seated → Type 0
  caught_up st m found m' = (seen : List Entry) × (moments : List ℕ) × StartsWith seen m.0.seen × AllByRecursion (λ k. StartsWith seen k.seen × StartsWith moments k.moments) m.0.joined
      × StartsWith moments m.0.moments × KnowsMoments Contents step m.0.base seen moments × (m' ≡ (record m.0 { seen = seen; moments = moments; steps = m.0.steps + 1 }, m.1))
      × ((n : ℕ) → length m.0.calls ≡ length m.0.outcomes → KnowsEntries m.0.base.callers n m.0 → KnowsEntries m.0.base.callers n m'.0)

  -- The writer loads word 0, and what it keeps of joined views agrees with the records: each of them was told what the records told it, and what it had seen begins the history. Nobody else's calls are in the records, and the history is theirs.
  -- When: it is out.
  abbrev pub reviewed : Step ℕ → Seated → ℕ → Seated → Type 0
  reviewed st m found m' = (m' ≡ (planned m.0 (plan_of m.0), m.1))
      × AllByRecursion (λ k. 0 < k.number → told_to_caller (plan_of m.0).told k.number ≡ k.told) m.0.joined
      × AllByRecursion (λ x. (0 < x.0.caller) × (x.0.caller ≤ m.0.base.callers)) (plan_of m.0).told
      × ((s : S) (n : ℕ) → Contents m.0.base.order m.0.base.image s n → Recorded step m.0.base s n (book_in (plan_of m.0)) × AllByRecursion (IsKeptInBook n (book_in (plan_of m.0))) m.0.joined)
