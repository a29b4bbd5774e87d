-- What the program promises of its words.
use Rattle.std.specs.Prelude.{◌≡◌, ◌↔◌, ◌⊎◌, ℕ, List, codes, IfSome, Option, Some, None}
use Rattle.rom_model.specs.declared.unfit.Unfit.{Unfit}
use Rattle.rom_device.specs.Device.{OnlyReads, ShownDevice}
use Rattle.rom_text.specs.Runs.{IsLineWrittenOrCutShort}
use Rattle.rom_text.specs.Streams.{ShownSink, StopsWriting}
use Rattle.rom_dump.specs.Shown.{IsCommandAnswered, Telling}
use Rattle.rom_dump.specs.Words.{DumpCommand, Script, Check, Metrics}

-- the statuses with which a command may end, or words that are none
abbrev pub IsDumpStatus : Option DumpCommand → ℕ → Type 0
IsDumpStatus (Some (Script file from part)) status = (status ≡ 0) ⊎ (status ≡ 3) ⊎ (status ≡ 5) ⊎ (status ≡ 6) ⊎ (status ≡ 7) ⊎ (status ≡ 8)
IsDumpStatus (Some (Check file from)) status = (status ≡ 0) ⊎ (status ≡ 3) ⊎ (status ≡ 6) ⊎ (status ≡ 7)
IsDumpStatus (Some (Metrics file)) status = (status ≡ 0) ⊎ (status ≡ 3) ⊎ (status ≡ 5) ⊎ (status ≡ 6) ⊎ (status ≡ 7)
IsDumpStatus None status = status ≡ 2

-- Whatever the words are, the device is only read; and what they ask for is shown, or the heap refused.
pub record DumpPromise {D K S : Type 0} (shown : ShownDevice D) (sink : ShownSink K) (Contents : ℕ → List ℕ → S → ℕ → Type 0) (Rejects : ℕ → List ℕ → Unfit → Type 0) (telling : Telling) (asked : Option DumpCommand) (was now : D) (old new : K) (status : ℕ) : Type 0 where
  pub only_reads : OnlyReads shown was now
  pub statuses : IsDumpStatus asked status
  -- what is asked for is shown, or a refusal is told; a fault and want of memory are refusals, too
  pub answered : IfSome asked (λ does. IsCommandAnswered shown sink Contents Rejects telling does was now old new status)
  -- the status is 2 exactly where the words are no command; a line says so, and the device is not called
  pub not_a_command : (status ≡ 2) ↔ (asked ≡ None)
  pub not_a_command_told : status ≡ 2 → IsLineWrittenOrCutShort sink old new (codes "not a command")
  pub uncalled : status ≡ 2 → now ≡ was
  -- no write of the sink is made after one that failed, and what the sink has beside its bytes stays
  pub writing : StopsWriting sink old new
  pub rest : sink.rest new ≡ sink.rest old
