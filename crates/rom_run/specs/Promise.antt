-- What a program promises of a command.
use Rattle.std.specs.Prelude.{◌≡◌, ◌≢◌, ◌⊎◌, ℕ, List, map, IsSome, IsNone, IfSome, codes, Option}
use Rattle.std.specs.Global.{Vec}
use Rattle.std.specs.List.{AllByRecursion}
use Rattle.rom_model.specs.Earlier.{Earlier}
use Rattle.rom_model.specs.Machine.{Machine, on_words}
use Rattle.rom_model.specs.Story.{Story}
use Rattle.rom_model.specs.declared.line.Step.{Step}
use Rattle.rom_model.specs.declared.line.LineResult.{LineResult}
use Rattle.rom_model.specs.declared.unfit.Unfit.{Unfit}
use Rattle.rom_device.specs.Device.{ShownDevice}
use Rattle.rom_text.specs.Runs.{AreAskedOnce, AreAtEnd, AreNotTooLong, IsLineWrittenOrCutShort, SourceFailed, SourceTooLong}
use Rattle.rom_text.specs.Streams.{ShownSink, ShownSource, StopsWriting, WriteFailed}
use Rattle.rom_store.specs.Lasting.{HasLasted}
use Rattle.rom_store.specs.Moments.{LastsFor}
use Rattle.rom_store.specs.Sessions.{EachStory, SessionSeen}
use Rattle.rom_run.specs.Complete.{HasFewFaults, IsComplete, IsRefusedExactly}
use Rattle.rom_run.specs.Played.{HasReplies}
use Rattle.rom_run.specs.Use.{HasNotRun, HasRead, HasRun, IsStatus, Use, heap_of}
use Rattle.rom_run.specs.Working.{HasMade, HasNone, HasSession, IsDeviceKept, IsStill}

-- of a program's object, device, sources and sink; which scripts it plays, and what it prints of their results
module _ {S C Q R A D X K : Type 0} (machine : Machine S C Q R A) (Contents : ℕ → List ℕ → S → ℕ → Type 0) (kind : ℕ) (Rejects : ℕ → List ℕ → Unfit → Type 0) (earlier : Earlier S) (shown : ShownDevice D) (source : ShownSource X) (sink : ShownSink K)
    (AreRun : List X → List (List (Step C Q)) → Type 0) (Prints : Story S → List (List (LineResult R A)) → K → K → ℕ → Type 0) where
  -- What follows from the promises below, where the status printed is that of the results (`Completing.antt`): whoever reads those need not read these.
  pub record Corollaries (asked : Option Use) (was now : D) (sources left : Vec X) (old new : K) (status : ℕ) (session : Option SessionSeen) : Type 0 where
    -- how a command ends where it can begin and nothing fails
    pub complete : IsComplete shown source sink was now sources.items left.items old new AreRun Contents earlier asked status
    -- that the status is 3 exactly where the heap is refused by name
    pub refused : IsRefusedExactly Contents Rejects earlier shown was now asked status
    -- and that no more lines of a caller tell of a fault than the device counted
    pub few_faults : IfSome session (λ s. EachStory machine Contents s (HasFewFaults machine shown was now))

  -- A command that asks for this use of the device's heap, or words that are none: whatever becomes of it, it ends so and prints so.
  pub record HasEnded (asked : Option Use) (was now : D) (sources left : Vec X) (old new : K) (status : ℕ) (session : Option SessionSeen) : Type 0 where
    -- the status, and where a session is left
    pub statuses : IsStatus asked status
    pub ran : HasRun asked status → IsSome session
    pub not_run : HasNotRun asked status → IsNone session
    -- where scripts were run or a heap was shown, the results of one history are printed, and what a stop leaves is told by it
    pub story : IfSome asked (λ does. IfSome session (HasSession machine Contents shown (heap_of does) was now (HasReplies machine AreRun Prints sources.items old new status)))
    pub still : IfSome session (λ s. EachStory machine Contents s (IsStill Contents shown asked was now))
    -- else what a stop may leave, and why scripts were not run, or a heap not shown or not upgraded
    pub none : IfSome asked (λ does. IsNone session → HasNone machine Contents shown sink kind Rejects earlier (heap_of does) was now old new status)
    -- with 0 a heap that was to be made or upgraded is made or upgraded, as far as the device tells
    pub made : status ≡ 0 → HasMade machine Contents earlier shown sink asked was now old new
    -- the device keeps its length and, where it tells its words, those outside of the heap, or all of them
    -- where a heap that is to be made is refused
    pub kept : IfSome asked (λ does. IsDeviceKept shown (heap_of does) was now)
    -- with no command (2), a source that failed (4) or a script that is too long (8) the device is not called
    pub uncalled : (status ≡ 2) ⊎ (status ≡ 4) ⊎ (status ≡ 8) → now ≡ was
    -- no read of a source is made after one that gave no byte
    pub asked_once : AreAskedOnce source sources.items left.items
    -- with words that are no command no source is read
    pub unread : status ≡ 2 → left ≡ sources
    -- with 0, 1, 3, 5 and 7 each source that tells its bytes is within a script's limits, and read to its end
    pub fit : HasRead status → AreNotTooLong source sources.items
    pub read : HasRead status → AreAtEnd source left.items
    -- with 4 the source of the first script that is refused failed, and the line names that script
    pub source_failed : status ≡ 4 → SourceFailed source sink sources.items left.items old new
    -- with any other status each source's count of faults is what it was
    pub none_failed : status ≢ 4 → map source.faults left.items ≡ map source.faults sources.items
    -- with 8 the first script that is refused is too long, and the line names it
    pub too_long : status ≡ 8 → SourceTooLong source sink sources.items left.items old new
    -- with words that are no command a line says so
    pub not_a_command_told : status ≡ 2 → IsLineWrittenOrCutShort sink old new (codes "not a command")
    -- with 5 the sink's last write failed, and no other
    pub sink_failed : status ≡ 5 → WriteFailed sink old new
    -- no write of the sink is made after one that failed
    pub writing : StopsWriting sink old new
    -- what the sink has beside its bytes stays
    pub rest : sink.rest new ≡ sink.rest old

  -- All that is promised of it.
  pub record Promise (asked : Option Use) (was now : D) (sources left : Vec X) (old new : K) (status : ℕ) (session : Option SessionSeen) : Type 0 where
    pub ended : HasEnded asked was now sources left old new status session
    -- each pass that added to the history was certain at its commit: no stop since then has left less of it
    pub lasting : IfSome session (λ s. EachStory machine Contents s (λ story. HasLasted shown Contents (on_words machine) story now))
    -- What each caller was told is among what it had seen, and it keeps the moments at which all that was committed: no stop since the moment of an entry has left less of the history than up to this entry. `dated` of each update and each read says that the moments were known as it was told.
    pub told_lasts : IfSome session (λ s. EachStory machine Contents s (λ story. AllByRecursion (LastsFor shown Contents (on_words machine) story now) s.callers))
    -- and what follows from all this
    pub corollaries : Corollaries asked was now sources left old new status session
