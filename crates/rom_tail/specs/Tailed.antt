-- A stream that is followed in batches, up to the first stop.
use Rattle.std.specs.Prelude.{◌≡◌, ◌≢◌, ◌⊎◌, ℕ, ◌+◌, ◌≤◌, List, [], ◌∷◌, ◌++◌, length, map, take, Option, Some, None, slice_get}
use Rattle.std.specs.List.{AllByRecursion}
use Rattle.std.specs.Io.KnownBytes.{Consumes}
use Rattle.rom_model.specs.History.{LAST_COUNT}
use Rattle.rom_model.specs.declared.entry.Entry.{Entry}
use Rattle.rom_model.specs.declared.record.PassRecord.{PassRecord}
use Rattle.rom_store.specs.Lone.{args_in}
use Rattle.rom_text.specs.Runs.{IsCutShort, IsWhollyWritten}
use Rattle.rom_text.specs.Streams.{IsAskedOnce, ShownSink, ShownSource}
use Rattle.rom_frame.specs.Frames.{IsOfWords}
use Rattle.rom_frame.specs.Messages.{GaveOn}
use Rattle.rom_frame.specs.declared.frame.Frame.{Frame}
use Rattle.rom_follow.specs.Following.{update_of}
use Rattle.rom_replica.specs.Stops.{stop_number}
use Rattle.rom_replica.specs.Following.{counts_text}
use Rattle.rom_replica.specs.Turns.{applied, bytes_of_all}
use Rattle.rom_replica.specs.declared.stop.Stop.{Stop}
use Rattle.rom_replica.specs.declared.stop.Stop.TheVariants as stops
use Rattle.rom_tail.specs.Batches.{call_in, many_next, reply_in, update_in}
use Rattle.rom_tail.specs.Chased.{Chased, FindsFew, HasFailed, IsPublished}
use Rattle.rom_tail.specs.Intakes.{IsStopOfStream}
use Rattle.rom_tail.specs.Tallied.{IsTally}
use Rattle.rom_tail.specs.declared.tally.Tally.{Tally}

-- All of these updates were done: each was published, and they are the history.
pub record IsAllDone (n0 : ℕ) (frames : List Frame) (history : List Entry) (records : List PassRecord) : Type 0 where
  pub long : length history ≡ many_next n0 frames
  pub published : AllByRecursion IsPublished records

-- From a count on, the history and the records by these frames, behind which there are those of the last batch from the stop on.
module _ (n0 : ℕ) (history : List Entry) (records : List PassRecord) (frames rest : List Frame) where
  -- Why this frame is the first that is not done, or the first that was told another reply than its own. With another reply the frames of its batch that are behind it were done too.
  abbrev pub IsStopAt : Frame → Stop → Type 0
  IsStopAt f stops.DeviceFailed = (length history ≡ many_next n0 frames) × HasFailed (map call_in (applied (n0 + many_next n0 frames) rest)) (length history) records
  IsStopAt f stops.Diverged = AllByRecursion IsPublished records × ((e : Entry) × (slice_get history (many_next n0 frames) ≡ Some e) × (e.args ≡ call_in f) × (e.reply ≢ reply_in f))
  IsStopAt f stops.Spent = IsAllDone n0 frames history records × ((f.place ≡ LAST_COUNT) ⊎ (LAST_COUNT ≤ length records))
  IsStopAt f other = ⊥

module _ {X : Type 0} (source : ShownSource X) (n0 : ℕ) (was : X) where
  -- So far all frames were taken, and none was a stop. These bytes wait.
  pub record HasGoneOn (waits : List ℕ) (now : X) (c : Chased) (tally : Tally) : Type 0 where
    pub frames : List Frame
    pub of_words : AllByRecursion IsOfWords frames
    pub read : Consumes (source.left was) (source.left now) (bytes_of_all frames ++ waits)
    pub gave : GaveOn source was now
    pub count_is : c.count ≡ n0 + many_next n0 frames
    pub updates : map update_of c.history ≡ map update_in (applied n0 frames)
    pub all : IsAllDone n0 frames c.history c.records
    pub few : AllByRecursion FindsFew c.records
    pub tally_is : IsTally n0 frames tally

  module _ (now : X) (history : List Entry) (records : List PassRecord) (frames rest : List Frame) (bytes : List ℕ) where
    -- What stopped it: the first frame of those that are left, or the stream behind all frames.
    abbrev pub HasStopped : List Frame → Stop → Type 0
    HasStopped [] stop = IsStopOfStream source bytes was now stop × IsAllDone n0 frames history records
    HasStopped (f ∷ fs) stop = GaveOn source was now × (f.place ≡ n0 + many_next n0 frames) × IsStopAt n0 history records frames rest f stop

  -- What comes of a stream that was followed up to its first stop.
  pub record IsTailed (now : X) (history : List Entry) (records : List PassRecord) (tally : Tally) (stop : Stop) : Type 0 where
    -- the frames before the stop, those of the last batch from it on, and the bytes behind them
    pub frames : List Frame
    pub rest : List Frame
    pub bytes : List ℕ
    pub of_words : AllByRecursion IsOfWords (frames ++ rest)
    pub read : Consumes (source.left was) (source.left now) (bytes_of_all (frames ++ rest) ++ bytes)
    -- Of the frames before the stop those whose places run on from the count at the opening are the first entries, with calls and replies. Each further entry has the call of a frame behind them.
    pub updates : map update_of (take (many_next n0 frames) history) ≡ map update_in (applied n0 frames)
    pub calls : map args_in history ≡ take (length history) (map call_in (applied n0 (frames ++ rest)))
    -- each pass found no more calls than a batch has
    pub few : AllByRecursion FindsFew records
    -- why that is the stop
    pub stopped : HasStopped now history records frames rest bytes rest stop
    -- how many of the frames before it became entries, were known, and came early
    pub tally_is : IsTally n0 frames tally
    pub asked_once : IsAskedOnce source was now

  -- what a turn comes to: it goes on, or this is the stop
  abbrev pub TurnsTo : Option Stop → List ℕ → X → Chased → Tally → Type 0
  TurnsTo None waits now c tally = HasGoneOn waits now c tally
  TurnsTo (Some stop) waits now c tally = IsTailed now c.history c.records tally stop

-- how many frames were applied, known and early, and the count of updates
abbrev pub tail_text : Tally → ℕ → List ℕ
tail_text tally count = counts_text tally.applied tally.known tally.early count

-- The two lines are printed, and the status is that of the stop; or they are cut short.
abbrev pub IsTailText : {K : Type 0} → ShownSink K → Tally → Stop → ℕ → K → K → ℕ → Type 0
IsTailText sink tally stop count old new status =
    ((status ≡ stop_number stop) × IsWhollyWritten sink old new (tail_text tally count))
    ⊎ ((status ≡ 5) × IsCutShort sink old new (tail_text tally count))
