-- What was printed of scripts, and why they could not be read.
use Rattle.std.specs.Prelude.{◌≡◌, ℕ, List, IfSome, codes, Option, Some, None}
use Rattle.std.proofs.Common.{arith}
use Rattle.rom_model.specs.Machine.{Machine}
use Rattle.rom_model.specs.Story.{Story}
use Rattle.rom_model.specs.declared.line.LineResult.{LineResult}
use Rattle.rom_model.specs.declared.line.Step.{Step}
use Rattle.rom_device.specs.Device.{ShownDevice}
use Rattle.rom_text.specs.Runs.{IsLineWrittenOrCutShort}
use Rattle.rom_text.specs.Streams.{ShownSink, ShownSource}
use Rattle.rom_store.specs.Sessions.{EachStory, SessionSeen}
use Rattle.rom_run.specs.Played.{HasReplies, HavePlayed}
use Rattle.rom_run.specs.Reading.{AreNotRun}
use Rattle.rom_run.specs.Statuses.{exit_number}
use Rattle.rom_run.specs.Use.{Plays, Scripts}
use Rattle.rom_run.specs.Working.{HasSession, IsStill}
use Rattle.rom_run.specs.declared.heap.Heap.{Heap}
use Rattle.rom_run.specs.declared.status.Status.{Status}
use Rattle.rom_run.specs.declared.status.Status.TheVariants.{NoMemory}

-- what was printed of scripts that were read from these sources
pub replies_of : {S C Q R A D X K : Type 0} (machine : Machine S C Q R A) (Contents : ℕ → List ℕ → S → ℕ → Type 0) (shown : ShownDevice D) (Prints : Story S → List (List (LineResult R A)) → K → K → ℕ → Type 0) (AreRun : List X → List (List (Step C Q)) → Type 0)
    (heap : Heap) (was now : D) (sources : List X) (scripts : List (List (Step C Q))) (old new : K) (status : ℕ) (session : Option SessionSeen) → AreRun sources scripts →
    IfSome session (HasSession machine Contents shown heap was now (HavePlayed machine Prints scripts old new status)) →
    IfSome session (HasSession machine Contents shown heap was now (HasReplies machine AreRun Prints sources old new status))
replies_of machine Contents shown Prints AreRun heap was now sources scripts old new status None read played = tt
replies_of machine Contents shown Prints AreRun heap was now sources scripts old new status (Some z) read played = record {
  story = played.story;
  each = played.each;
  certain = played.certain;
  told = λ story of. let p = played.told story of in record { scripts = scripts; results = p.results; read = read; answered = p.answered; printed = p.printed };
}

-- of a command that plays scripts nothing is said but this
pub played_still : {S C Q R A D : Type 0} (machine : Machine S C Q R A) (Contents : ℕ → List ℕ → S → ℕ → Type 0) (shown : ShownDevice D) (was now : D) (heap : Heap) (scripts : Scripts) (session : Option SessionSeen) →
    IfSome session (λ s. EachStory machine Contents s (IsStill Contents shown (Some (Plays heap scripts)) was now))
played_still machine Contents shown was now heap scripts None = tt
played_still machine Contents shown was now heap scripts (Some z) = λ story of. tt

-- scripts that could not be read for want of memory, by the status
pub unread_memory : {X K : Type 0} (source : ShownSource X) (sink : ShownSink K) (before after : List X) (old new : K) (status : Status) → AreNotRun source sink status before after old new → exit_number status ≡ 6 → IsLineWrittenOrCutShort sink old new (codes "no memory")
unread_memory source sink before after old new NoMemory why six = why
unread_memory source sink before after old new other why six = absurd (omega (arith, six))
