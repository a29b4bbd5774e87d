-- What contracts see of a follower in batches, and what frames do to it.
use Rattle.std.specs.Prelude.{◌≡◌, ◌≢◌, ◌⊎◌, ℕ, ◌+◌, ◌<◌, ◌≤◌, List, [], ◌∷◌, ◌++◌, length, map, take, Option, Some, None, slice_get}
use Rattle.std.specs.List.{AllByRecursion}
use Rattle.rom_model.specs.History.{IsLegal, LAST_COUNT}
use Rattle.rom_model.specs.Machine.{on_words}
use Rattle.rom_model.specs.Region.{Contents}
use Rattle.rom_model.specs.State.{State}
use Rattle.rom_model.specs.Trio.{trio}
use Rattle.rom_model.specs.declared.entry.Entry.{Entry}
use Rattle.rom_model.specs.declared.record.Fate.TheVariants.{Published}
use Rattle.rom_model.specs.declared.record.PassRecord.{PassRecord}
use Rattle.rom_rule.specs.Views.{plan_of, records_of}
use Rattle.rom_rule.specs.declared.views.Base.{Base}
use Rattle.rom_rule.specs.declared.views.View.{View}
use Rattle.rom_store.specs.Lone.{args_in, args_of, reply_of}
use Rattle.rom_frame.specs.declared.frame.Frame.{Frame}
use Rattle.rom_follow.specs.Following.{update_of}
use Rattle.rom_replica.specs.Turns.{applied}
use Rattle.rom_replica.specs.declared.stop.Stop.{Stop}
use Rattle.rom_replica.specs.declared.stop.Stop.TheVariants as stops
use Rattle.rom_tail.specs.Batches.{call_in, many_next, reply_in, update_in}
use Rattle.rom_tail.specs.declared.batch.Took.{Took}
use Rattle.rom_tail.specs.declared.few.TheConstants.{MOST}

-- the count of updates, the history since the opening, and the records of the passes
pub record Chased : Type 0 where
  pub count : ℕ
  pub history : List Entry
  pub records : List PassRecord

-- those of a heap whose writer knows this
abbrev pub chased : ℕ → View → Chased
chased count view = record { count = count; history = (plan_of view).history; records = records_of (plan_of view) }

-- what was done since the state and the count of the opening, in a heap of this order
pub record HasDone (order : ℕ) (s : State) (k : ℕ) (c : Chased) : Type 0 where
  pub legal : IsLegal (on_words trio) order s k c.history
  pub count_is : c.count ≡ k + length c.history
  pub within : c.count ≤ LAST_COUNT

-- What holds of each: its heap has as many callers as a batch has frames, and one record for each batch.
pub record IsChaser (base : Base) (own : Base) (many turns : ℕ) (c : Chased) : Type 0 where
  pub own_is : own ≡ base
  pub many_is : many ≡ MOST
  pub turns_are : turns ≡ length c.records
  pub formed : (s : State) × (k : ℕ) × Contents base.order base.image s k
  pub done : (s : State) (k : ℕ) → Contents base.order base.image s k → HasDone base.order s k c

-- the pass was published
abbrev pub IsPublished : PassRecord → Type 0
IsPublished r = r.fate ≡ Published

-- it found no more calls than a batch has
abbrev pub FindsFew : PassRecord → Type 0
FindsFew r = length r.found ≤ MOST

-- The last pass failed before its commit or at it, so none of its calls was done: it found these, behind the whole history.
pub record HasFailed (calls : List (List ℕ)) (len : ℕ) (passes : List PassRecord) : Type 0 where
  pub earlier : List PassRecord
  pub pass : PassRecord
  pub last : passes ≡ earlier ++ pass ∷ []
  pub published : AllByRecursion IsPublished earlier
  pub fate : pass.fate ≢ Published
  pub found : map args_of pass.found ≡ calls
  pub len_is : pass.len ≡ len

-- What a batch of these calls did: it added these entries and these records, of which there is one at most.
module _ (calls : List (List ℕ)) (old new : Chased) (more : List Entry) (passes : List PassRecord) where
  -- and this is why no more was done: no batch can be asked for, the count is at its limit, or the device failed
  abbrev pub EndsShort : Stop → Type 0
  EndsShort stops.Spent = AllByRecursion IsPublished passes × (length more < length calls → (new.count ≡ LAST_COUNT) ⊎ ((LAST_COUNT ≤ length old.records) × (more ≡ [])))
  EndsShort stops.DeviceFailed = HasFailed calls (length new.history) passes × (more ≡ [])
  EndsShort other = ⊥

  -- so many were done, and told these replies
  pub record IsBatch (replies : List (List ℕ)) (done : ℕ) (short : Stop) : Type 0 where
    pub done_is : done ≡ length more
    pub fits : done ≤ length calls
    pub told : done ≤ length replies
    pub history : new.history ≡ old.history ++ more
    pub records : new.records ≡ old.records ++ passes
    pub one : length passes ≤ 1
    pub count_is : new.count ≡ old.count + done
    pub args : map args_in more ≡ take done calls
    pub replies_are : map reply_of more ≡ take done replies
    pub found : AllByRecursion (λ r. map args_of r.found ≡ calls) passes
    pub ends : EndsShort short

-- so of some entries and records
pub record DoesBatch (calls : List (List ℕ)) (old new : Chased) (replies : List (List ℕ)) (done : ℕ) (short : Stop) : Type 0 where
  pub more : List Entry
  pub passes : List PassRecord
  pub batch : IsBatch calls old new more passes replies done short

-- What frames that were taken together did, from the one to the other: those whose places run on from the count were one batch.
module _ (frames : List Frame) (old new : Chased) (before rest : List Frame) (more : List Entry) (passes : List PassRecord) where
  -- This frame stops the batch: nothing of it was done, since the device failed; or all of it was done, but this one was told another reply; or this one and those behind it were not, since the count is at its limit or no batch can be asked for.
  abbrev pub StopsAt : Frame → Stop → Type 0
  StopsAt f stops.DeviceFailed = HasFailed (map call_in (applied old.count frames)) (length new.history) passes × (more ≡ [])
  StopsAt f stops.Diverged = AllByRecursion IsPublished passes × ((e : Entry) × (slice_get more (many_next old.count before) ≡ Some e) × (e.args ≡ call_in f) × (e.reply ≢ reply_in f))
  StopsAt f stops.Spent = AllByRecursion IsPublished passes × (length more ≡ many_next old.count before) × ((f.place ≡ LAST_COUNT) ⊎ (LAST_COUNT ≤ length old.records))
  StopsAt f other = ⊥

  -- the first frame that is left does, if one does; else all were done
  abbrev pub StopsAtFirst : List Frame → Option Stop → Type 0
  StopsAtFirst [] None = AllByRecursion IsPublished passes × (length more ≡ many_next old.count before)
  StopsAtFirst (f ∷ fs) (Some stop) = (f.place ≡ old.count + many_next old.count before) × StopsAt f stop
  StopsAtFirst left other = ⊥

-- So of the frames before the stop, as many as are counted, and those from it on. The first entries are the updates of those before it; and all are calls of the frames. They were one pass at most.
pub record TakesFrames (frames : List Frame) (old new : Chased) (took : Took) : Type 0 where
  pub before : List Frame
  pub rest : List Frame
  pub more : List Entry
  pub passes : List PassRecord
  pub split : frames ≡ before ++ rest
  pub many : took.counted ≡ length before
  pub history : new.history ≡ old.history ++ more
  pub records : new.records ≡ old.records ++ passes
  pub one : length passes ≤ 1
  pub count_is : new.count ≡ old.count + length more
  pub few : AllByRecursion FindsFew passes
  pub updates : map update_of (take (many_next old.count before) more) ≡ map update_in (applied old.count before)
  pub calls : map args_in more ≡ take (length more) (map call_in (applied old.count frames))
  pub stops : StopsAtFirst frames old new before rest more passes rest took.stop
