-- Scripts that are played on a heap: what they ask for, and what their session is.
use Rattle.std.specs.Prelude.{◌≡◌, ℕ, ◌≤◌, List, [], All, IsTrue, Ok, Err, length, map, vec_capacity, vec_len}
use Rattle.std.specs.Global.{Vec}
use Rattle.std.specs.List.{AllByRecursion}
use Rattle.atomic_table.specs.Seated.{TableId}
use Rattle.rom_model.specs.History.{LAST_COUNT}
use Rattle.rom_model.specs.Lawful.{IsLawful}
use Rattle.rom_model.specs.Leaving.{HaveLeft}
use Rattle.rom_model.specs.Machine.{Machine, on_words}
use Rattle.rom_model.specs.Passes.{faults_after}
use Rattle.rom_model.specs.Space.{ChangesOnly}
use Rattle.rom_model.specs.Story.{Story}
use Rattle.rom_model.specs.declared.kept.Kept.{Kept}
use Rattle.rom_model.specs.declared.line.LineResult.{LineResult}
use Rattle.rom_model.specs.declared.unfit.Unfit.{Unfit}
use Rattle.rom_model.specs.declared.line.Step.{Step}
use Rattle.rom_device.specs.Device.{Does, Leaves, ShownDevice, Stays}
use Rattle.rom_header.specs.Fresh.{HasTooFewFor, IsFormatAnswer, IsFormatRefused}
use Rattle.rom_header.specs.Held.{Holds}
use Rattle.rom_header.specs.Layout.{words_needed}
use Rattle.rom_header.specs.declared.fresh.FormatRefused.{FormatRefused}
use Rattle.rom_open.specs.Making.{HasFaultsUnmade, NoneOrHolds}
use Rattle.rom_open.specs.Refusals.{named_order}
use Rattle.rom_open.specs.Within.{HasMadeHeap, HasOpened, MakesNone, WithinMaking}
use Rattle.rom_open.specs.declared.new_heap.NotFormatted.{NotFormatted}
use Rattle.rom_open.specs.declared.new_heap.NotFormatted.TheVariants as unmade
use Rattle.rom_combine.specs.Costs.{WithinHeap}
use Rattle.rom_combine.specs.Session.{ImageNow, SessionImage}
use Rattle.rom_lines.specs.Replies.{Reserved}
use Rattle.rom_lines.specs.Steps.{Items}
use Rattle.rom_rule.specs.declared.views.Base.{Base}
use Rattle.rom_store.specs.Callers.{Caller, IsNewCaller}
use Rattle.rom_store.specs.Closing.{ClosedSeen}
use Rattle.rom_store.specs.Indexed.{Indexed}
use Rattle.rom_store.specs.Moments.{LastsFor}
use Rattle.rom_store.specs.Openings.{HasBeenRefused}
use Rattle.rom_store.specs.Sessions.{EachStory, HasStory, IsStoryOf}
use Rattle.rom_store.specs.Start.{HasStarted, device_start}
use Rattle.rom_store.specs.Traced.{WentThrough}
use Rattle.rom_store.specs.Working.{HasReservedRoom}
use Rattle.rom_store.specs.declared.playing.Unplayed.{Unplayed}
use Rattle.rom_store.specs.declared.playing.Unplayed.TheVariants.{NoRoom, Unopened}

-- For each script there are no results yet and room for one of each of its lines, and room for a job.
pub record HasRooms {C Q T J : Type 0} (call_words : C → List ℕ) (scripts : List (Items (Step C Q))) (results : Vec (Reserved T)) (jobs : Vec J) : Type 0 where
  pub many : vec_len results ≡ length scripts
  pub fits : Indexed (HasReservedRoom call_words (map (λ v. v.items) scripts)) results.items
  pub none : (jobs.items ≡ []) × (length scripts ≤ vec_capacity jobs)

-- What is asked before scripts are played: the heap of this table is opened for as many callers as there are scripts, the callers are new, there is room for all results, and no script has more lines than a caller may post updates.
pub record CanPlay {S C Q T J : Type 0} (Contents : ℕ → List ℕ → S → ℕ → Type 0) (call_words : C → List ℕ) (table : TableId) (base : Base) (passes : List Caller) (scripts : List (Items (Step C Q))) (results : Vec (Reserved T)) (jobs : Vec J) : Type 0 where
  pub opened : (s : S) × (k : ℕ) × Contents base.order base.image s k
  pub fresh : Indexed (IsNewCaller Contents table base) passes
  pub as_many : (length passes ≡ length scripts) × (length scripts ≡ base.callers)
  pub room : HasRooms call_words scripts results jobs
  pub few : All (λ v. length v.items ≤ LAST_COUNT) scripts

-- Why scripts were not played: there was no memory for what they are told, and the device was not called; or the heap was not opened.
abbrev pub IsUnplayed : {D S : Type 0} → ShownDevice D → (ℕ → List ℕ → S → ℕ → Type 0) → (ℕ → List ℕ → Unfit → Type 0) → D → Unplayed D → Type 0
IsUnplayed shown Contents Rejects was (NoRoom device) = device ≡ was
IsUnplayed shown Contents Rejects was (Unopened refused) = HasBeenRefused shown Contents Rejects was refused.device refused.why

-- No heap of this order was made for scripts, for this reason.
pub record HasMadeNone {D S : Type 0} (shown : ShownDevice D) (Contents : ℕ → List ℕ → S → ℕ → Type 0) (empty : S) (order : ℕ) (was now : D) (why : NotFormatted) : Type 0 where
  -- for want of memory the device was not called
  pub memory : why ≡ unmade.OutOfMemory → now ≡ was
  -- `AlreadyAHeap` comes only where a heap stood, and `TooSmall` only where none did and there are too few words
  pub refused : IsTrue shown.tells_words → (reason : FormatRefused) → why ≡ unmade.Refused reason → IsFormatAnswer order (shown.words was) (Err reason)
  -- `TooSmall` names how many words are needed and how many there are, also where words are not told
  pub sizes : (reason : FormatRefused) → why ≡ unmade.Refused reason → HasTooFewFor order (shown.size was) reason
  pub size : shown.size now ≡ shown.size was
  -- of the device's words only those that the heap would have may differ
  pub outside : IsTrue shown.tells_words → ChangesOnly 0 (words_needed order) (shown.words was) (shown.words now)
  -- each image that a stop might have left by now could be left before, or has no heap, or holds the empty state and the count 0
  pub images : IsTrue shown.tells_images → Leaves shown (NoneOrHolds Contents order empty) was now
  -- where a heap stood, or there are too few words, every word stays, and a stop leaves no other image than before
  pub spared : IsTrue shown.tells_words → IsFormatRefused order (shown.words was) → Does shown Stays was now
  -- where the reason is the device, its last call failed, and no other; else none did
  pub faults : HasFaultsUnmade why (shown.faults was) (shown.faults now) (shown.failing now)
  -- the device was called exactly as a making that ends for this reason calls it, which is no more than one making calls it, and not after a call that failed
  pub calls : MakesNone shown order why was now
  pub within : WithinMaking shown order was now

module _ {D S C Q R A : Type 0} (shown : ShownDevice D) (machine : Machine S C Q R A) (Contents : ℕ → List ℕ → S → ℕ → Type 0) (scripts : List (Items (Step C Q))) (results : List (Reserved (LineResult R A))) where
  -- What each of these callers keeps is what its lines were told, and what the session has of it. All that it has seen was committed at the moments that it knows, and each image that a stop has left since the moment of an entry holds the history up to this entry.
  pub record IsForGood (callers : List Kept) (story : Story S) (now : D) : Type 0 where
    pub left : HaveLeft machine story 1 callers (map (λ v. v.items) scripts) (map (λ v. v.items) results)
    pub lasts : AllByRecursion (LastsFor shown Contents (on_words machine) story now) callers

  -- What every session of scripts is. It has a story, and of each: what the lines were told is lawful, and is for good; each image that a stop leaves now holds the published history, or that with the batch in doubt; the device went through the passes of the records, from one on of which First holds, since which each image is one of the session; and the passes have no more faults than it counts.
  pub record IsSession (First : D → Type 0) (closed : ClosedSeen D) : Type 0 where
    pub story : HasStory machine Contents closed.session
    pub lawful : EachStory machine Contents closed.session (λ story. IsLawful machine story (map (λ v. v.items) scripts) (map (λ v. v.items) results))
    pub lasts : EachStory machine Contents closed.session (λ story. IsForGood closed.session.callers story closed.device)
    pub now : IsTrue shown.tells_images → EachStory machine Contents closed.session (λ story. (i : List ℕ) → shown.leaves closed.device i → ImageNow Contents (on_words machine) story i)
    pub went : EachStory machine Contents closed.session (λ story. WentThrough shown Contents (on_words machine) story First closed.device)
    pub since : IsTrue shown.tells_images → (story : Story S) (is : IsStoryOf machine Contents closed.session story) → Leaves shown (SessionImage Contents (on_words machine) story) (went story is).first closed.device
    pub faults : faults_after closed.session.faults closed.session.records ≤ shown.faults closed.device

  -- So, and it began with this opening, on this device, which no other call was made of in between: each image since then could be left before or is one of the session, and of the device's words only the state and the two regions differ.
  pub record IsPlayed (base : Base) (was : D) (closed : ClosedSeen D) : Type 0 where
    pub session : IsSession (HasStarted shown base.faults (device_start shown was) (shown.left_since was)) closed
    pub order : closed.session.order ≡ base.order
    pub image : closed.session.image ≡ base.image
    pub opening_faults : closed.session.faults ≡ base.faults
    pub since : IsTrue shown.tells_images → EachStory machine Contents closed.session (λ story. Leaves shown (SessionImage Contents (on_words machine) story) was closed.device)
    pub size : shown.size closed.device ≡ shown.size was
    pub outside : IsTrue shown.tells_words → WithinHeap base.order (shown.words was) (shown.words closed.device)

  -- They were played on the heap of a device, after one opening, of which no call failed.
  pub record HasPlayed (was : D) (closed : ClosedSeen D) : Type 0 where
    pub session : IsSession (HasOpened shown closed.session.order was) closed
    -- the heap has the order that the device's header named, and the device has room for it
    pub order : IsTrue shown.tells_words → closed.session.order ≡ named_order (shown.words was)
    pub fits : words_needed closed.session.order ≤ shown.size was
    -- the history begins with the state and the count that the device's words held
    pub held : IsTrue shown.tells_words → EachStory machine Contents closed.session (λ story. Holds Contents story.order (shown.words was) story.opening story.opening_count)
    pub faults : closed.session.faults ≡ shown.faults was
    -- of the device's words only the state and the two regions of the heap may differ
    pub size : shown.size closed.device ≡ shown.size was
    pub outside : IsTrue shown.tells_words → WithinHeap (named_order (shown.words was)) (shown.words was) (shown.words closed.device)
    -- each image that a stop might have left by now could be left before, or is one of the session
    pub since : IsTrue shown.tells_images → EachStory machine Contents closed.session (λ story. Leaves shown (SessionImage Contents (on_words machine) story) was closed.device)

  -- They were played on a heap of this order that was made for them, where none stood, by one making, of which no call failed.
  pub record HasPlayedNew (made : ℕ) (was : D) (closed : ClosedSeen D) : Type 0 where
    -- what a stop left by then is told by the making, and since then by the session
    pub session : IsSession (HasMadeHeap shown Contents made machine.empty was) closed
    pub order : closed.session.order ≡ made
    pub accepted : IsTrue shown.tells_words → IsFormatAnswer made (shown.words was) (Ok tt)
    pub fits : words_needed made ≤ shown.size was
    -- the history begins with the object's empty state and the count 0
    pub empty : EachStory machine Contents closed.session (λ story. (story.opening ≡ machine.empty) × (story.opening_count ≡ 0))
    pub faults : closed.session.faults ≡ shown.faults was
    -- of the device's words only those of the new heap may differ
    pub size : shown.size closed.device ≡ shown.size was
    pub outside : IsTrue shown.tells_words → ChangesOnly 0 (words_needed made) (shown.words was) (shown.words closed.device)
