-- Scripts that can't be read, and what is told of them.
use Rattle.std.specs.Prelude.{◌≡◌, ℕ, ◌+◌, List, ◌++◌, codes, decimal}
use Rattle.rom_text.specs.declared.read.ReadRefused.{ReadRefused}
use Rattle.rom_text.specs.declared.read.ReadRefused.TheVariants as refused
use Rattle.rom_text.specs.Limits.{FailedEarly, IsTooLong}
use Rattle.rom_text.specs.Runs.{IsFirstToFail, IsLineWrittenOrCutShort, SourceFailed, SourceTooLong}
use Rattle.rom_text.specs.Streams.{ShownSink, ShownSource}
use Rattle.rom_run.specs.declared.script.Unread.{Unread}
use Rattle.rom_run.specs.declared.script.Unread.TheVariants.{Script, OutOfMemory}
use Rattle.rom_run.specs.declared.status.Status.{Status}
use Rattle.rom_run.specs.declared.status.Status.TheVariants.{ScriptFailed, NoMemory, ScriptTooLong}

-- the line that says why no script is run
abbrev pub unread_line : Unread → List ℕ
unread_line (Script number refused.Failed) = codes "script " ++ decimal number ++ codes " failed"
unread_line (Script number refused.TooLong) = codes "script " ++ decimal number ++ codes " too long"
unread_line (Script number refused.OutOfMemory) = codes "no memory"
unread_line OutOfMemory = codes "no memory"

-- and the status
abbrev pub unread_status : Unread → Status
unread_status (Script number refused.Failed) = ScriptFailed
unread_status (Script number refused.TooLong) = ScriptTooLong
unread_status (Script number refused.OutOfMemory) = NoMemory
unread_status OutOfMemory = NoMemory

module _ {S : Type 0} (source : ShownSource S) where
  -- why a script can't be read, by its source before and after
  abbrev pub IsCause : ReadRefused → S → S → Type 0
  IsCause refused.Failed was now = FailedEarly source was now
  IsCause refused.TooLong was now = IsTooLong source was now
  IsCause refused.OutOfMemory was now = Unit {0}

  -- The script of this number, from 1, is the first that can't be read.
  pub record IsUnreadAt (number : ℕ) (why : ReadRefused) (before after : List S) : Type 0 where
    pub script : ℕ
    pub was : S
    pub now : S
    pub number_is : number ≡ script + 1
    pub first : IsFirstToFail source script was now before after
    pub cause : IsCause why was now

  -- the scripts aren't read, for this reason
  abbrev pub AreUnread : Unread → List S → List S → Type 0
  AreUnread (Script number why) before after = IsUnreadAt number why before after
  AreUnread OutOfMemory before after = Unit {0}

module _ {S O : Type 0} (source : ShownSource S) (sink : ShownSink O) where
  -- Scripts that aren't run, and the line that says why: the status is its cause.
  abbrev pub AreNotRun : Status → List S → List S → O → O → Type 0
  AreNotRun ScriptFailed before after old new = SourceFailed source sink before after old new
  AreNotRun ScriptTooLong before after old new = SourceTooLong source sink before after old new
  AreNotRun NoMemory before after old new = IsLineWrittenOrCutShort sink old new (codes "no memory")
  AreNotRun other before after old new = ⊥
