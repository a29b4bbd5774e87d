-- The kinds of step on posted calls: a caller posts a call in its slot, the writer finds it, answers it, and the caller takes the answer. As in `Kinds.antt`, each has its sentence, its condition, and what it tells.
use Rattle.std.specs.Prelude.{◌≡◌, ℕ, ◌+◌, ◌/◌, ◌%◌, ◌<◌, ◌≤◌, List, [], ◌∷◌, ◌++◌, map, take, drop, length, nat_lt, slice_index, slice_index_or, Option, true, false, ◌==◌, if◌then◌else◌}
use Rattle.std.specs.List.{AllByRecursion}
use mathlib.Core.Option.{some}
use lib.ListN.{get_elem?}
use Rattle.atomic_table.specs.Table.{Step}
use Rattle.rom_model.specs.History.{after, batch, LAST_COUNT}
use Rattle.rom_model.specs.Passes.{fate_told, faults_after, history_of, HasFault}
use Rattle.rom_model.specs.Seen.{StartsWith}
use Rattle.rom_model.specs.declared.call.Updated.{Updated}
use Rattle.rom_model.specs.declared.call.Updated.TheVariants.{Done}
use Rattle.rom_model.specs.declared.entry.Entry.{Entry}
use Rattle.rom_model.specs.declared.record.Fate.{Fate}
use Rattle.rom_model.specs.declared.record.Fate.TheVariants.{Published}
use Rattle.rom_model.specs.declared.record.Found.{Found}
use Rattle.rom_model.specs.declared.record.PassRecord.{PassRecord}
use Rattle.rom_rule.specs.Calls.{IsLater, IsWhole, answer_words, found_of, packed, told_to_caller}
use Rattle.rom_rule.specs.Kinds.{IsBatch, Seated, TellsEach, making, planned}
use Rattle.rom_rule.specs.Places.{CALL, PLACE, REPLY, TURN, slot_at}
use Rattle.rom_rule.specs.Records.{IsCall, KnowsEntries, KnowsMoments}
use Rattle.rom_rule.specs.Views.{Each, Told, is_made, plan_of}
use Rattle.rom_rule.specs.declared.views.Base.{Base}
use Rattle.rom_rule.specs.declared.views.Plan.{Plan}
use Rattle.rom_rule.specs.declared.views.Request.{Request}
use Rattle.rom_rule.specs.declared.views.View.{View}

-- A caller stores word j of its next call, or their number.
-- When: it has no call posted, and has stored the words before.
abbrev pub HasNonePosted : View → Type 0
HasNonePosted v = (0 < v.number) × (length v.calls ≡ length v.outcomes)

-- a caller has one call posted, and hasn't learnt yet what that call was told
abbrev pub HasPosted : View → Type 0
HasPosted v = (0 < v.number) × (length v.calls ≡ length v.outcomes + 1)

-- word j may be stored: no call is posted, the words before it are stored, and j is at most 40
abbrev pub CanStoreArgument : View → ℕ → Type 0
CanStoreArgument v j = HasNonePosted v × (j ≤ length v.laid) × (j ≤ 40)

-- What a store of word j of a call tells: it stands behind the first j words stored, as the last one.
abbrev pub stored_argument : Step ℕ → Seated → ℕ → Seated → Type 0
stored_argument st m found m' = (j : ℕ) → st.word ≡ slot_at m.0.base.callers m.0.number (CALL + j) → m' ≡ (record m.0 { laid = take j m.0.laid ++ st.first ∷ []; steps = m.0.steps + 1 }, m.1)

-- A caller stores its turn, odd.
-- When: it has no call posted, the words that it has stored are those of a call, and it has posted fewer than the count's limit.
pub record CanPost {S : Type 0} (step : ℕ → S → ℕ → List ℕ → Option (S × List ℕ)) (v : View) : Type 0 where
  pub none_posted : HasNonePosted v
  pub whole : v.laid ≡ packed (drop 1 v.laid)
  pub few : length (drop 1 v.laid) ≤ 40
  pub call : IsCall step v.base (drop 1 v.laid)
  pub room : length v.calls < LAST_COUNT

-- The view once its call is posted: the call is the words stored, without their number. `since` is the
-- length of the history that the view had seen.
abbrev pub posting : View → View
posting v = record v { calls = v.calls ++ drop 1 v.laid ∷ []; since = length v.seen; steps = v.steps + 1 }

-- What a store of the odd turn tells: the caller has its call posted.
abbrev pub posted : Step ℕ → Seated → ℕ → Seated → Type 0
posted st m found m' = m' ≡ (posting m.0, m.1)

-- The writer loads the turn of caller c. It marks it as scanned, and odd finds the call.
abbrev pub found_after : ℕ → ℕ → Plan → Plan
found_after c turn p = record p { scanned = c; requests = if turn % 2 == 1 then (p.requests ++ record { caller = c; seq = turn / 2; words = []; laid = []; place = []; answered = false } ∷ []) else p.requests }

-- When: c is the caller after the one scanned last, and the pass has no record yet.
abbrev pub CanScan : Plan → ℕ → Type 0
CanScan p c = (c ≡ p.scanned + 1) × (p.mine ≡ [])

-- What a load of a turn tells: its caller is scanned, and an odd turn finds the call.
abbrev pub scanned : Step ℕ → Seated → ℕ → Seated → Type 0
scanned st m turn m' = (c : ℕ) → 0 < c → st.word ≡ slot_at m.0.base.callers c TURN → m' ≡ (planned m.0 (found_after c turn (plan_of m.0)), m.1)

-- When: it is the first caller's, and each request is answered. A new pass begins.
abbrev pub CanBegin : Plan → Type 0
CanBegin p = Each (λ _ f. f.answered ≡ true) p.requests

-- The plan of a new pass. The record of the last pass joins the earlier ones, no caller is scanned yet, and
-- no call is found.
abbrev pub beginning : Plan → Plan
beginning p = record p { records = p.records ++ p.mine; mine = []; requests = []; passes = p.passes + 1; scanned = 0 }

-- What the load of the first caller's turn tells: a new pass has scanned it, and an odd turn finds the call.
abbrev pub begun : Step ℕ → Seated → ℕ → Seated → Type 0
begun st m turn m' = (st.word ≡ slot_at m.0.base.callers 1 TURN) × (m' ≡ (planned m.0 (found_after 1 turn (beginning (plan_of m.0))), m.1))

-- the request of caller c, as g makes it
abbrev pub alter : ℕ → (Request → Request) → Request → Request
alter c g f = if f.caller == c then g f else f

-- the plan with the requests of caller c as g makes them
abbrev pub altered : ℕ → (Request → Request) → Plan → Plan
altered c g p = record p { requests = map (alter c g) p.requests }

-- caller c's call was found, and isn't answered yet
abbrev pub IsPending : Plan → ℕ → Request → Type 0
IsPending p c f = (i : ℕ) × (get_elem? p.requests i ≡ some f) × (f.caller ≡ c) × (f.answered ≡ false)

-- what the records told of a request
abbrev pub IsAnswerToRequest : Plan → Request → Updated (List ℕ) → Type 0
IsAnswerToRequest p f u = get_elem? (told_to_caller p.told f.caller) f.seq ≡ some (found_of f, u)

-- The writer loads word j of a request's call, or their number.
-- When: it is pending, and the words before were loaded.
abbrev pub CanLoadArgument : Plan → Request → ℕ → Type 0
CanLoadArgument p f j = IsPending p f.caller f × (j ≤ length f.words) × (0 < j → j ≤ slice_index f.words 0)

-- a request once word j of its call was loaded: the word stands behind the first j words, as the last one
abbrev pub loading : ℕ → ℕ → Request → Request
loading j x f = record f { words = take j f.words ++ x ∷ [] }

module _ {S : Type 0} (Contents : ℕ → List ℕ → S → ℕ → Type 0) (step : ℕ → S → ℕ → List ℕ → Option (S × List ℕ)) where
  -- It tells that the number of words is at most 40, and once all are loaded, that they are those of a call.
  abbrev pub loaded_argument : Step ℕ → Seated → ℕ → Seated → Type 0
  loaded_argument st m found m' = (c j : ℕ) → 0 < c → j < 41 → st.word ≡ slot_at m.0.base.callers c (CALL + j) → (m' ≡ (planned m.0 (altered c (loading j found) (plan_of m.0)), m.1))
      × (j ≡ 0 → found ≤ 40) × ((f : Request) (args : List ℕ) → IsPending (plan_of m.0) c f → take j f.words ++ found ∷ [] ≡ packed args → IsCall step m.0.base args)

-- The writer stores word j of a request's reply, or their number.
-- When: it is pending, and the words before were stored.
abbrev pub CanStoreReply : Plan → Request → ℕ → Type 0
CanStoreReply p f j = IsPending p f.caller f × (j ≤ length f.laid) × (j < 21)

-- a request once word j of its reply was stored: the word stands behind the first j words, as the last one
abbrev pub laying : ℕ → ℕ → Request → Request
laying j x f = record f { laid = take j f.laid ++ x ∷ [] }

-- What a store of word j of a reply tells: the caller's request has it behind the first j words stored, as
-- the last one.
abbrev pub stored_reply : Step ℕ → Seated → ℕ → Seated → Type 0
stored_reply st m found m' = (c j : ℕ) → 0 < c → j < 21 → st.word ≡ slot_at m.0.base.callers c (REPLY + j) → m' ≡ (planned m.0 (altered c (laying j st.first) (plan_of m.0)), m.1)

module _ {S : Type 0} (Contents : ℕ → List ℕ → S → ℕ → Type 0) (step : ℕ → S → ℕ → List ℕ → Option (S × List ℕ)) where
  -- The first word that the writer stores of an answer, in a pass without a record, makes the record.
  -- When: all words of the requests were loaded, the counts are as at a store of `side` as main, and the fate is true: a fault for `Failed` and `Doubt`, and for `Published` a count at its limit.
  pub record CanMakeRecord (b : Base) (p : Plan) (fate : Fate) (before now : ℕ) : Type 0 where
    pub unmade : p.mine ≡ []
    pub whole : Each (λ _. IsWhole) p.requests
    pub from : faults_after b.faults p.records ≤ before
    pub on : before ≤ now
    pub fault : HasFault fate before now
    pub start : S
    pub count : ℕ
    pub opening : Contents b.order b.image start count
    pub full : fate ≡ Published → count + length p.history ≡ LAST_COUNT

  -- What the store that makes the record tells: a pass that found calls has a record of this fate, and the
  -- request has the word. The pass adds nothing, so its record has 0 for a moment.
  abbrev pub made_record : Fate → ℕ → ℕ → Step ℕ → Seated → ℕ → Seated → Type 0
  made_record fate before after st m found m' = (k : ℕ) × (more : List Entry) × IsBatch Contents step m.0.base (plan_of m.0) k more × TellsEach fate k more (plan_of m.0)
      × ((c j : ℕ) → 0 < c → j < 21 → st.word ≡ slot_at m.0.base.callers c (REPLY + j) → m' ≡ (planned m.0 (altered c (laying j st.first) (making fate before after 0 k more (plan_of m.0))), m.1))

  -- The first word of an answer, whether the pass has its record or not.
  abbrev pub begun_answer : Fate → ℕ → ℕ → Step ℕ → Seated → ℕ → Seated → Type 0
  begun_answer fate before now st m found m' = (is_made (plan_of m.0).mine ≡ true → stored_reply st m found m') × (is_made (plan_of m.0).mine ≡ false → made_record fate before now st m found m')

-- The writer stores a request's place, or a code.
-- When: it is pending.
abbrev pub placing : ℕ → Request → Request
placing x f = record f { place = x ∷ [] }

-- What a store of a place or a code tells: the caller's request has it.
abbrev pub stored_place : Step ℕ → Seated → ℕ → Seated → Type 0
stored_place st m found m' = (c : ℕ) → 0 < c → st.word ≡ slot_at m.0.base.callers c PLACE → m' ≡ (planned m.0 (altered c (placing st.first) (plan_of m.0)), m.1)

-- The writer stores a request's turn, even.
-- When: it is pending, and the words that stand in the slot are what the records told of it.
abbrev pub CanFinish : Plan → Request → Updated (List ℕ) → ℕ → Type 0
CanFinish p f u place = IsPending p f.caller f × IsAnswerToRequest p f u × (f.place ≡ place ∷ []) × (place ∷ f.laid ≡ answer_words u)

-- a request that is answered
abbrev pub answering : Request → Request
answering f = record f { answered = true }

-- What a store of the even turn tells: the caller's request is answered.
abbrev pub answered : Step ℕ → Seated → ℕ → Seated → Type 0
answered st m found m' = (c : ℕ) → 0 < c → st.word ≡ slot_at m.0.base.callers c TURN → m' ≡ (planned m.0 (altered c answering (plan_of m.0)), m.1)

-- the longer of two lists
abbrev pub longer : List Entry → List Entry → List Entry
longer xs ys = if nat_lt (length ys) (length xs) then xs else ys

-- the entry of a call that had this reply stands at this place
abbrev pub HasEntry : ℕ → List Entry → Found → List ℕ → ℕ → Type 0
HasEntry count history f reply place = (i : ℕ) × (place ≡ count + i) × (place < LAST_COUNT) × (get_elem? history i ≡ some record { caller = f.caller; seq = f.seq; args = f.args; reply = reply })

module _ {S : Type 0} (Contents : ℕ → List ℕ → S → ℕ → Type 0) (step : ℕ → S → ℕ → List ℕ → Option (S × List ℕ)) where
  -- What one pass told of a call: the pass is the last of some first passes, it found calls alone, its count of faults rose where it failed or is in doubt, and what is seen goes up to it. What is done stands in the history at its place, which the caller had not seen when it posted the call.
  pub record IsToldByPass (b : Base) (x : Told) (since : ℕ) (seen seen' : List Entry) : Type 0 where
    pub start : S
    pub count : ℕ
    pub opening : Contents b.order b.image start count
    pub earlier : List PassRecord
    pub pass : PassRecord
    pub at : ℕ
    pub calls : AllByRecursion (λ f. IsCall step b f.args) pass.found
    pub fault : HasFault pass.fate pass.faults_before pass.faults_after
    pub told : (let h = history_of step b.order start count earlier in get_elem? (fate_told pass.fate (count + length h) pass.found (batch step b.order (after step b.order start count h) (count + length h) pass.found)) at) ≡ some x
    pub seen_is : seen' ≡ longer seen (history_of step b.order start count (earlier ++ pass ∷ []))
    pub begins : StartsWith seen' seen
    pub since_is : IsLater count since x
    pub entry : (reply : List ℕ) (place : ℕ) → x.1 ≡ Done reply place → HasEntry count seen' x.0 reply place

  -- A caller loads its turn. Even tells what its call was told, and then it knows which entries that it has seen are its own, and its moments become those of what it has seen, behind the ones that it knew; odd tells nothing.
  -- When: it has a call posted.
  pub record Learnt (m : Seated) (m' : Seated) : Type 0 where
    pub told : Told
    pub seen : List Entry
    pub moments : List ℕ
    pub found : told.0 ≡ record { caller = m.0.number; seq = length m.0.outcomes; args = slice_index_or m.0.calls (length m.0.outcomes) [] }
    pub is_told : IsToldByPass m.0.base told m.0.since m.0.seen seen
    pub view : m' ≡ (record m.0 { outcomes = m.0.outcomes ++ told ∷ []; seen = seen; moments = moments; steps = m.0.steps + 1 }, m.1)
    pub moments_begin : StartsWith moments m.0.moments
    pub dated : KnowsMoments Contents step m.0.base seen moments
    pub own : (s : S) (n : ℕ) → Contents m.0.base.order m.0.base.image s n → KnowsEntries m.0.base.callers n m'.0

  -- What a load of its turn tells a caller: an odd turn tells nothing, and an even one what its call was
  -- told.
  abbrev pub loaded_turn : Step ℕ → Seated → ℕ → Seated → Type 0
  loaded_turn st m turn m' = (st.word ≡ slot_at m.0.base.callers m.0.number TURN) × (turn % 2 ≡ 1 → m' ≡ (record m.0 { steps = m.0.steps + 1 }, m.1)) × (turn % 2 ≡ 0 → Learnt m m')

-- the last of a caller's outcomes
abbrev pub IsLast : View → Told → Type 0
IsLast v x = (before : List Told) × (v.outcomes ≡ before ++ x ∷ [])

-- A caller loads a word of its answer: it is that of its last outcome.
-- When: it has no call posted.
abbrev pub loaded_answer : Step ℕ → Seated → ℕ → Seated → Type 0
loaded_answer st m found m' = (m' ≡ (record m.0 { steps = m.0.steps + 1 }, m.1))
    × ((x : Told) → IsLast m.0 x → (length (answer_words x.1) ≤ 22) × ((j : ℕ) → j < length (answer_words x.1) → st.word ≡ slot_at m.0.base.callers m.0.number (PLACE + j) → found ≡ slice_index (answer_words x.1) j))
