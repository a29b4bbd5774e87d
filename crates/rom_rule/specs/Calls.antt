-- What the rule says of calls, from their posting to their answers.
use Rattle.std.specs.Prelude.{◌≡◌, ℕ, ◌+◌, ◌-◌, ◌*◌, ◌<◌, ◌≤◌, List, [], ◌∷◌, map, filter, drop, length, slice_index, slice_index_or, Bool, true, false, ◌==◌, ◌&&◌, not, if◌then◌else◌}
use Rattle.std.specs.List.{AllByRecursion}
use mathlib.Core.Option.{some}
use lib.ListN.{get_elem?}
use Rattle.rom_model.specs.History.{LAST_COUNT}
use Rattle.rom_model.specs.Seen.{StartsWith}
use Rattle.rom_model.specs.Undone.{SPENT, FAILED, DOUBT}
use Rattle.rom_model.specs.declared.call.Updated.{Updated}
use Rattle.rom_model.specs.declared.call.Updated.TheVariants.{Done, Spent, Failed, Doubt}
use Rattle.rom_model.specs.declared.kept.Kept.{Kept}
use Rattle.rom_model.specs.declared.record.Found.{Found}
use Rattle.rom_rule.specs.Places.{CALL, PLACE, REPLY, TURN}
use Rattle.rom_rule.specs.declared.views.Request.{Request}
use Rattle.rom_rule.specs.Views.{Each, Told, CallerCalls, PlanCalls}

-- word j of the slot of caller c, among the words of all slots
abbrev pub slot_word_at : List ℕ → ℕ → ℕ → ℕ
slot_word_at slots c j = slice_index slots (64 * (c - 1) + j)

-- these words stand in the slot of caller c from its word j on
abbrev pub Lies : List ℕ → ℕ → ℕ → List ℕ → Type 0
Lies slots c j words = (i : ℕ) → i < length words → slot_word_at slots c (j + i) ≡ slice_index words i

-- how words are laid out: their number, then they
abbrev pub packed : List ℕ → List ℕ
packed words = length words ∷ words

-- how an answer is laid out: the place or a code, then the reply
abbrev pub answer_words : Updated (List ℕ) → List ℕ
answer_words (Done reply place) = place ∷ packed reply
answer_words Spent = SPENT ∷ packed []
answer_words Failed = FAILED ∷ packed []
answer_words Doubt = DOUBT ∷ packed []

-- what was told of the calls of one caller
abbrev pub told_to_caller : List Told → ℕ → List Told
told_to_caller told c = filter (λ x. x.0.caller == c) told

-- the found call, without what it is told
abbrev pub found_in : Told → Found
found_in x = x.0

-- a caller's calls as passes find them, numbered from i on
abbrev pub numbered : ℕ → ℕ → List (List ℕ) → List Found
numbered c i [] = []
numbered c i (args ∷ calls) = record { caller = c; seq = i; args = args } ∷ numbered c (i + 1) calls

-- a request as the record has it
abbrev pub found_of : Request → Found
found_of f = record { caller = f.caller; seq = f.seq; args = drop 1 f.words }

-- whose request it is
abbrev pub caller_in : Request → ℕ
caller_in f = f.caller

-- all its words were loaded
abbrev pub IsWhole : Request → Type 0
IsWhole f = f.words ≡ packed (drop 1 f.words)

-- whether the request is of caller c and isn't answered yet
abbrev pub is_owed : ℕ → Request → Bool
is_owed c f = (f.caller == c) && not f.answered

-- how many requests of caller c aren't answered yet
abbrev pub owed : ℕ → List Request → ℕ
owed c requests = length (filter (is_owed c) requests)

-- how many of them stand in this pass's record
abbrev pub owing : Bool → ℕ → List Request → ℕ
owing made c requests = if made then owed c requests else 0

-- The slot of caller c, by the calls that it has posted, how many of them were answered, how many this pass's record owes it, and what the records told it. While the turn is odd, the slot's argument words are those of the posted call; a turn of 2s means that s calls were answered, and then the slot has the last answer. Each answered call stands in exactly one record, and the records found the caller's calls in their order.
pub record SlotHolds (Callable : List ℕ → Type 0) (slots : List ℕ) (c : ℕ) (calls : List (List ℕ)) (given owe : ℕ) (answers : List Told) : Type 0 where
  pub given_le : given ≤ length calls
  pub one_open : length calls ≤ given + 1
  pub few : length calls ≤ LAST_COUNT
  pub turn : slot_word_at slots c TURN ≡ given + length calls
  pub short : (k : ℕ) → k < length calls → (length (slice_index_or calls k []) ≤ 40) × Callable (slice_index_or calls k [])
  pub posted : length calls ≡ given + 1 → Lies slots c CALL (packed (slice_index_or calls given []))
  pub recorded : length answers ≡ given + owe
  pub asked : StartsWith (numbered c 0 calls) (map found_in answers)
  pub answered : (i : ℕ) (x : Told) → length calls ≡ given → i + 1 ≡ given → get_elem? answers i ≡ some x → (length (answer_words x.1) ≤ 22) × Lies slots c PLACE (answer_words x.1)

-- Of a request that isn't answered yet: its call is posted, what was loaded of it are its first words, and what was stored of its answer stands in the slot.
pub record IsOpen (slots : List ℕ) (calls : List (List ℕ)) (given : ℕ) (f : Request) : Type 0 where
  pub posted : length calls ≡ given + 1
  pub seq : f.seq ≡ given
  pub loaded : StartsWith (packed (slice_index_or calls given [])) f.words
  pub placed : Lies slots f.caller PLACE f.place
  pub place_few : length f.place ≤ 1
  pub laid : Lies slots f.caller REPLY f.laid
  pub laid_few : length f.laid ≤ 21

-- a request is of one of the callers, and is open until it is answered
abbrev pub Open : ℕ → List ℕ → (ℕ → List (List ℕ)) → (ℕ → ℕ) → Request → Type 0
Open callers slots calls given f = (0 < f.caller) × (f.caller ≤ callers) × (f.answered ≡ false → IsOpen slots (calls f.caller) (given f.caller) f)

-- the callers rise strictly, above the first number and up to the second
abbrev pub AreScanned : ℕ → ℕ → List ℕ → Type 0
AreScanned low last [] = low ≤ last
AreScanned low last (c ∷ cs) = (low < c) × AreScanned c last cs

-- The requests of this pass: in rising order of callers, up to the one scanned last, each open until it is answered, and none answered before the pass has its record.
pub record AreFound (callers : ℕ) (slots : List ℕ) (calls : ℕ → List (List ℕ)) (given : ℕ → ℕ) (p : PlanCalls) : Type 0 where
  pub all_open : Each (λ _. Open callers slots calls given) p.requests
  pub scanned : AreScanned 0 p.scanned (map caller_in p.requests)
  pub unmade : p.made ≡ false → Each (λ _ f. f.answered ≡ false) p.requests

-- a call is done at a place that its caller had not seen when it posted it
abbrev pub IsLater : ℕ → ℕ → Told → Type 0
IsLater count since x = (reply : List ℕ) (place : ℕ) → x.1 ≡ Done reply place → count + since ≤ place

-- A joined caller posts no more, and kept what the records told it of all its calls.
abbrev pub IsClosedCaller : ℕ → (ℕ → List (List ℕ)) → (ℕ → Bool) → List Told → Kept → Type 0
IsClosedCaller callers calls closed told k = 0 < k.number → (k.number ≤ callers) × (closed k.number ≡ true) × (length (calls k.number) ≡ length k.told) × StartsWith (told_to_caller told k.number) k.told

-- What a caller's view knows of its calls: they are those that it posted, what it was told is what the records told it, the argument words that it has stored since stand in its slot, and the call that is posted is done at a place that it had not seen when it posted it.
pub record KnowsCalls (callers : ℕ) (slots : List ℕ) (count : ℕ) (calls : ℕ → List (List ℕ)) (given : ℕ → ℕ) (closed : ℕ → Bool) (p : PlanCalls) (t : CallerCalls) : Type 0 where
  pub live : 0 < t.number → closed t.number ≡ false
  pub joined : AllByRecursion (IsClosedCaller callers calls closed p.told) t.joined
  pub mine : 0 < t.number → t.calls ≡ calls t.number
  pub outcomes : 0 < t.number → StartsWith (told_to_caller p.told t.number) t.outcomes
  pub taken_le : 0 < t.number → length t.outcomes ≤ given t.number
  pub laid_there : 0 < t.number → Lies slots t.number CALL t.laid
  pub laid_few : length t.laid ≤ 41
  pub since_le : t.since ≤ p.len
  pub since : (x : Told) → 0 < t.number → get_elem? (told_to_caller p.told t.number) (length t.outcomes) ≡ some x → IsLater count t.since x

-- Of all callers: what each has posted, how many of its calls were answered, and whether it was joined into another view. A number that no view has had yet has posted nothing. The records found no other caller's calls.
pub record Announced (Callable : List ℕ → Type 0) (callers : ℕ) (slots : List ℕ) (count : ℕ) (p : PlanCalls) (all_calls : List CallerCalls) : Type 0 where
  pub calls : ℕ → List (List ℕ)
  pub given : ℕ → ℕ
  pub closed : ℕ → Bool
  pub fresh : (c : ℕ) → p.dealt < c → (calls c ≡ []) × (given c ≡ 0) × (closed c ≡ false)
  pub each : (c : ℕ) → 0 < c → c ≤ callers → SlotHolds Callable slots c (calls c) (given c) (owing p.made c p.requests) (told_to_caller p.told c)
  pub views : Each (λ _. KnowsCalls callers slots count calls given closed p) all_calls
  pub requests : AreFound callers slots calls given p
  pub known : AllByRecursion (λ x. (0 < x.0.caller) × (x.0.caller ≤ callers)) p.told
