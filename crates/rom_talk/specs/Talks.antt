-- What each caller's talk is, and the status that all of them lead to.
use Rattle.std.specs.Prelude.{◌≡◌, ℕ, ◌+◌, ◌-◌, ◌^◌, ◌<◌, IsTrue, Bool, true, false, if◌then◌else◌, List, [], ◌∷◌, ◌++◌, length, take, IfSome}
use Rattle.std.specs.List.{AllByRecursion, list_any}
use Rattle.rom_model.specs.Faults.{FailedLast, StopsAtFault, counted}
use Rattle.rom_model.specs.Heard.{HasHeard}
use Rattle.rom_model.specs.History.{LAST_COUNT}
use Rattle.rom_model.specs.Machine.{Machine, on_words}
use Rattle.rom_model.specs.Seen.{StartsWith}
use Rattle.rom_model.specs.Story.{Story}
use Rattle.rom_model.specs.declared.kept.Kept.{Kept}
use Rattle.rom_model.specs.declared.line.Step.{Step}
use Rattle.rom_model.specs.declared.line.LineResult.{LineResult}
use Rattle.rom_device.specs.Device.{ShownDevice}
use Rattle.rom_text.specs.Text.{ResultFits, Texts, results_text}
use Rattle.rom_hear.specs.Events.{Event, Said, known_in, said_in}
use Rattle.rom_hear.specs.Peers.{ShownPeer}
use Rattle.rom_hear.specs.Talking.{IsFounded, IsFrontOf, IsTalk, IsWholeTalk}
use Rattle.rom_run.specs.Played.{AreAnswered}
use Rattle.rom_run.specs.Statuses.{is_faulted, is_unread}
use Rattle.rom_store.specs.Callers.{Caller}
use Rattle.rom_store.specs.Closing.{kept_in}
use Rattle.rom_store.specs.Indexed.{Indexed}
use Rattle.rom_store.specs.Lasting.{Lasts}
use Rattle.rom_store.specs.Taking.{IsSeen}
use Rattle.rom_talk.specs.declared.ending.Ending.{Ending}
use Rattle.rom_talk.specs.declared.ending.Ending.TheVariants as ending

-- it could not be heard to its end
abbrev pub is_unheard : Ending → Bool
is_unheard ending.Over = false
is_unheard ending.Unheard = true
is_unheard ending.Unsaid = false

-- it took no more
abbrev pub is_unsaid : Ending → Bool
is_unsaid ending.Over = false
is_unsaid ending.Unheard = false
is_unsaid ending.Unsaid = true

-- The status of talks that ended so, with these results: 7 where the device failed under an update, else 5 where a peer took no more, else 4 where one could not be heard to its end, else 1 where a line is unread, else 0. Replies were told as they came, so that one client that goes hides no failed device.
abbrev pub talk_status : {R A : Type 0} → List Ending → List (List (LineResult R A)) → ℕ
talk_status endings results =
    if list_any (λ rs. list_any is_faulted rs) results then 7 else
    if list_any is_unsaid endings then 5 else
    if list_any is_unheard endings then 4 else
    if list_any (λ rs. list_any is_unread rs) results then 1 else 0

module _ {K P : Type 0} (peer : ShownPeer K P) where
  -- It is the peer that was handed in. Of its askings all brought some bytes, or all but the last one; and of its sayings none failed, or the last one alone.
  pub record KeepsToIt (was now : P) : Type 0 where
    pub asked_once : StopsAtFault (peer.idle was) (peer.idle now) (peer.ended now)
    pub stops_saying : StopsAtFault (peer.unsaid was) (peer.unsaid now) (peer.failing now)
    pub rest : peer.rest now ≡ peer.rest was

  -- so each of them
  abbrev pub KeepToIt : List P → List P → Type 0
  KeepToIt [] [] = Unit {0}
  KeepToIt (was ∷ before) (now ∷ after) = KeepsToIt was now × KeepToIt before after
  KeepToIt before after = ⊥

  -- What of the peer's calls failed, by how its talk ended: nothing, or its last asking alone, or its last saying alone.
  abbrev pub HasEndedAs : Ending → P → P → Type 0
  HasEndedAs ending.Over was now = (peer.unheard now ≡ peer.unheard was) × (peer.unsaid now ≡ peer.unsaid was)
  HasEndedAs ending.Unheard was now = (peer.unheard now ≡ counted (peer.unheard was)) × FailedLast (peer.idle was) (peer.idle now) (peer.ended now) × (peer.unsaid now ≡ peer.unsaid was)
  HasEndedAs ending.Unsaid was now = (peer.unheard now ≡ peer.unheard was) × FailedLast (peer.unsaid was) (peer.unsaid now) (peer.failing now)

-- of how results are written
module _ {C Q R A K : Type 0} (texts : Texts R A) where
  -- How far a talk came, by how it ended. Where it could not be heard further, each line that was known had been done, and all that these lines were told had been said. Where no more was taken, each result but the last one had been said whole. The numbers of all that was said whole are of their types.
  abbrev pub HasComeSoFar : Ending → List (Step C Q) → List (LineResult R A) → List (Event K) → Type 0
  HasComeSoFar ending.Over steps results log = AllByRecursion (ResultFits texts) results
  HasComeSoFar ending.Unheard steps results log = (length steps ≡ known_in log) × (said_in log ≡ results_text texts results) × AllByRecursion (ResultFits texts) results
  HasComeSoFar ending.Unsaid steps results log = (told : List (LineResult R A)) × (last : LineResult R A) × (results ≡ told ++ last ∷ []) × IsFrontOf (results_text texts told) (said_in log) × AllByRecursion (ResultFits texts) told

-- of how results are written, and of what it is that a caller has done lines
module _ {C Q R A K : Type 0} (texts : Texts R A) (Did : K → List (Step C Q) → List (LineResult R A) → Type 0) where
  -- As these bytes were said, the caller had done so many lines and one more, and no other. What the former were told had been said whole before, and these bytes are of what the last one was told.
  pub record SaysInTurn (steps : List (Step C Q)) (results : List (LineResult R A)) (before : List (Event K)) (bytes : List ℕ) (knowing : K) : Type 0 where
    pub many : ℕ
    pub few : many < length results
    pub whole : IsFrontOf (results_text texts (take many results)) (said_in before)
    pub some : IsFrontOf (said_in before ++ bytes) (results_text texts (take (many + 1) results))
    pub did : Did knowing (take (many + 1) steps) (take (many + 1) results)

  -- No line was done before all was said that the line before it was told: so it was whenever anything was said.
  abbrev pub IsSaidInTurn : List (Step C Q) → List (LineResult R A) → List (Event K) → Type 0
  IsSaidInTurn steps results log = (before after : List (Event K)) (bytes : List ℕ) (knowing : K) → log ≡ before ++ Said bytes knowing ∷ after → SaysInTurn steps results before bytes knowing

-- of an object, a device and its peers, and how lines and results are written
module _ {S C Q R A D P : Type 0} (machine : Machine S C Q R A) (Contents : ℕ → List ℕ → S → ℕ → Type 0) (shown : ShownDevice D) (peer : ShownPeer Caller P) (texts : Texts R A) (Reads : List ℕ → Step C Q → Type 0) where
  -- A caller that knows this has seen what these results tell of: that is of the session's history, and each image that a stop has left since the moment of an entry holds the history up to it.
  -- `LastsFor` says of a caller at the closing also that it had seen just what some first passes made. The rule
  -- has this of the views that a closing takes in, and not of one in the midst of a talk.
  pub record Covers (story : Story S) (now : D) (knowing : Caller) (results : List (LineResult R A)) : Type 0 where
    pub told : AllByRecursion (IsSeen story.opening_count (kept_in knowing)) results
    pub of : StartsWith story.history (kept_in knowing).seen
    pub dated : length (kept_in knowing).moments ≡ length (kept_in knowing).seen
    pub lasts : IsTrue shown.tells_images → Indexed (λ i moment. Lasts shown Contents (on_words machine) story (i + 1) moment now) (kept_in knowing).moments

  -- Of a peer that tells its log: the lines that it was heard to say are these steps, they were told these results, each at once and before the next line was done, and of whatever was said the caller knew that it lasts. Where nothing failed it was heard to its end and told all, unless its lines or its askings were as many as nobody writes. How far it came where something failed, and that the numbers of all that was said whole are of their types, `so_far` tells.
  pub record HasTalked (story : Story S) (now : D) (was left : P) (end : Ending) (steps : List (Step C Q)) (results : List (LineResult R A)) : Type 0 where
    pub talk : IfSome (peer.log left) (IsTalk texts Reads steps results)
    pub founded : IfSome (peer.log left) (IsFounded texts (Covers story now) results)
    pub in_turn : IfSome (peer.log left) (IsSaidInTurn texts (λ knowing. HasHeard machine story.order story.opening story.opening_count (kept_in knowing)) steps results)
    pub ended : HasEndedAs peer end was left
    pub whole : end ≡ ending.Over → length steps < LAST_COUNT → IfSome (peer.log left) (λ log. length log < 2 ^ 64 - 1 → IsWholeTalk texts Reads steps results log)
    pub so_far : IfSome (peer.log left) (HasComeSoFar texts end steps results)

  -- so peer by peer
  abbrev pub AllHaveTalked : Story S → D → List P → List P → List Ending → List (List (Step C Q)) → List (List (LineResult R A)) → Type 0
  AllHaveTalked story now [] [] [] [] [] = Unit {0}
  AllHaveTalked story now (was ∷ before) (left ∷ after) (end ∷ endings) (steps ∷ scripts) (results ∷ more) = HasTalked story now was left end steps results × AllHaveTalked story now before after endings scripts more
  AllHaveTalked story now before after endings scripts more = ⊥

  -- The talks with all peers: what they were told are the results of one history, which is the story's, and what the callers keep; and the status is the one that all this leads to.
  pub record HaveTalked (before after : List P) (now : D) (status : ℕ) (callers : List Kept) (story : Story S) : Type 0 where
    pub steps : List (List (Step C Q))
    pub results : List (List (LineResult R A))
    pub endings : List Ending
    pub answered : AreAnswered machine steps results callers story
    pub talks : AllHaveTalked story now before after endings steps results
    pub status_is : status ≡ talk_status endings results
