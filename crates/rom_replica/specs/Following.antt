-- What `follow` does, and what it prints.
use Rattle.std.specs.Prelude.{◌≡◌, ◌⊎◌, ℕ, ◌+◌, ◌≤◌, List, [], ◌∷◌, ◌++◌, length, codes, decimal}
use Rattle.std.specs.List.{AllByRecursion}
use Rattle.std.specs.Io.KnownBytes.{Consumes}
use Rattle.rom_model.specs.History.{IsLegal, LAST_COUNT}
use Rattle.rom_model.specs.Lawful.{IsRecorded}
use Rattle.rom_model.specs.Machine.{on_words}
use Rattle.rom_model.specs.Region.{Contents}
use Rattle.rom_model.specs.State.{State}
use Rattle.rom_model.specs.Story.{Story, count}
use Rattle.rom_model.specs.Trio.{trio}
use Rattle.rom_model.specs.declared.entry.Entry.{Entry}
use Rattle.rom_model.specs.declared.kept.Kept.{Kept}
use Rattle.rom_rule.specs.Views.{Told}
use Rattle.rom_store.specs.Sessions.{SessionSeen}
use Rattle.rom_text.specs.Runs.{IsCutShort, IsWhollyWritten}
use Rattle.rom_text.specs.Streams.{ShownSink, ShownSource}
use Rattle.rom_text.specs.Text.{line_text}
use Rattle.rom_frame.specs.Frames.{IsOfWords}
use Rattle.rom_frame.specs.declared.frame.Frame.{Frame}
use Rattle.rom_follow.specs.Closing.{ArePassesOf, KeepsWhole}
use Rattle.rom_follow.specs.Followed.{Followed, HasDoneUpdates}
use Rattle.rom_replica.specs.Stops.{HasStopped, stop_number}
use Rattle.rom_replica.specs.Tallied.{IsTallyOfFrames, WasFollowed}
use Rattle.rom_replica.specs.Turns.{applied, bytes_of_all, entries_from, tries_from}
use Rattle.rom_replica.specs.declared.stop.Stop.{Stop}
use Rattle.rom_replica.specs.declared.tally.Tally.{Tally}

-- how many frames were applied, known and early, and the count of updates
abbrev pub counts_text : ℕ → ℕ → ℕ → ℕ → List ℕ
counts_text a k e count =
    line_text (codes "applied " ++ decimal a ++ codes " known " ++ decimal k ++ codes " early " ++ decimal e)
    ++ line_text (codes "count " ++ decimal count)

-- so of a tally
abbrev pub follow_text : Tally → ℕ → List ℕ
follow_text tally count = counts_text tally.applied tally.known tally.early count

-- The two lines are printed, and the status is that of the stop; or they are cut short.
abbrev pub IsFollowText : {K : Type 0} → ShownSink K → Tally → Stop → ℕ → K → K → ℕ → Type 0
IsFollowText sink tally stop count old new status =
    ((status ≡ stop_number stop) × IsWhollyWritten sink old new (follow_text tally count))
    ⊎ ((status ≡ 5) × IsCutShort sink old new (follow_text tally count))

module _ {X : Type 0} (source : ShownSource X) where
  -- What comes of a stream that was followed up to its first stop.
  pub record IsStreamFollowed (was now : X) (tally : Tally) (stop : Stop) (callers : List Kept) (story : Story State) : Type 0 where
    -- the frames before the stop, and what was read behind them
    pub frames : List Frame
    pub part : List ℕ
    pub of_words : AllByRecursion IsOfWords frames
    pub read : Consumes (source.left was) (source.left now) (bytes_of_all frames ++ part)
    -- why that is the stop, and what came of the frame at which it stopped
    pub entries : List Entry
    pub tries : List Told
    pub stopped : (let many = length (applied story.opening_count frames) in HasStopped source (length (bytes_of_all frames)) part was now (story.opening_count + many) many stop entries tries)
    -- how many of them became entries, were known, and came early
    pub tally_is : IsTallyOfFrames story.opening_count frames tally
    -- the history: each frame whose place was the count gave the entry there, with its call and its reply, as the one caller's
    pub history : story.history ≡ entries_from 0 (applied story.opening_count frames) ++ entries
    pub legal : IsLegal (on_words trio) story.order story.opening story.opening_count story.history
    pub within : count story ≤ LAST_COUNT
    -- the passes: one for each update that was tried, in their order, and no other
    pub recorded : IsRecorded trio story
    pub passes : ArePassesOf story.records (tries_from 0 (applied story.opening_count frames) ++ tries)
    -- the one caller: it keeps that it has seen all of the history, and what became of each try
    pub own : Kept
    pub only : callers ≡ own ∷ []
    pub number : own.number ≡ 1
    pub seen : own.seen ≡ story.history
    pub told : own.told ≡ tries_from 0 (applied story.opening_count frames) ++ tries

  -- And the two lines tell of it.
  pub record IsToldOfStream {K : Type 0} (sink : ShownSink K) (was now : X) (old new : K) (status : ℕ) (callers : List Kept) (story : Story State) : Type 0 where
    pub tally : Tally
    pub stop : Stop
    pub followed : IsStreamFollowed was now tally stop callers story
    pub printed : IsFollowText sink tally stop (count story) old new status

  -- As the follower knows it, whose history and tries are those of its session, and what its one caller keeps.
  pub record HasClosed (was now : X) (tally : Tally) (stop : Stop) (session : SessionSeen) : Type 0 where
    pub opened : ℕ
    pub follower : Followed
    pub stream : WasFollowed source stop opened was now follower tally
    pub done : (s : State) (k : ℕ) → Contents session.order session.image s k → (opened ≡ k) × HasDoneUpdates session.order s k follower
    pub history : session.history ≡ follower.history
    pub passes : ArePassesOf session.records follower.tried
    pub kept : KeepsWhole follower session.callers
