-- What a run that reads scripts and prints a text promises of its streams, whatever it does with the lines.
use Rattle.std.specs.Prelude.{◌≡◌, ◌⊎◌, ℕ, ◌+◌, List, [], ◌∷◌, ◌++◌, take, drop, codes, decimal, slice_get, Some, IfSome}
use Rattle.std.specs.List.{AllByRecursion}
use Rattle.std.specs.Io.KnownBytes.{Appends, IsAtEnd}
use Rattle.rom_text.specs.Limits.{FailedEarly, FitsScript, IsTooLong}
use Rattle.rom_text.specs.Streams.{ShownSink, ShownSource, AppendsFront, IsAskedOnce, WriteFailed}
use Rattle.rom_text.specs.Text.{line_text}

module _ {S : Type 0} (source : ShownSource S) where
  -- each source that tells its bytes has no more than a script may hold
  abbrev pub AreNotTooLong : List S → Type 0
  AreNotTooLong sources = AllByRecursion (λ s. IfSome (source.left s) FitsScript) sources

  -- no byte is left in a source that tells its bytes
  abbrev pub AreAtEnd : List S → Type 0
  AreAtEnd sources = AllByRecursion (λ s. IsAtEnd (source.left s)) sources

  -- of each source no read was made after one that gave no byte
  abbrev pub AreAskedOnce : List S → List S → Type 0
  AreAskedOnce [] [] = Unit {0}
  AreAskedOnce (was ∷ before) (now ∷ after) = IsAskedOnce source was now × AreAskedOnce before after
  AreAskedOnce before after = ⊥

  -- The script of this number, whose source was the one and is the other now, is the first that is refused:
  -- the scripts before it were read to their ends, and hold no more than they may; those behind it were not read.
  pub record IsFirstToFail (script : ℕ) (was now : S) (before after : List S) : Type 0 where
    pub stood : slice_get before script ≡ Some was
    pub stands : slice_get after script ≡ Some now
    pub others_fit : AreNotTooLong (take script before)
    pub others_read : AreAtEnd (take script after)
    pub others_left : drop (script + 1) after ≡ drop (script + 1) before

module _ {O : Type 0} (sink : ShownSink O) where
  -- the text is written, and no write failed
  abbrev pub IsWhollyWritten : O → O → List ℕ → Type 0
  IsWhollyWritten old new text = Appends (sink.taken old) (sink.taken new) text × (sink.faults new ≡ sink.faults old)

  -- some of it is written, from its front, and then the last write failed, and no other
  abbrev pub IsCutShort : O → O → List ℕ → Type 0
  IsCutShort old new text = AppendsFront (sink.taken old) (sink.taken new) text × WriteFailed sink old new

  -- the line is printed, or cut short
  abbrev pub IsLineWrittenOrCutShort : O → O → List ℕ → Type 0
  IsLineWrittenOrCutShort old new line = IsWhollyWritten old new (line_text line) ⊎ IsCutShort old new (line_text line)

module _ {S O : Type 0} (source : ShownSource S) (sink : ShownSink O) where
  -- The first script that is refused has a source that failed, and the line names it.
  pub record SourceFailed (before after : List S) (old new : O) : Type 0 where
    pub script : ℕ
    pub was : S
    pub now : S
    pub first : IsFirstToFail source script was now before after
    pub failed : FailedEarly source was now
    pub told : IsLineWrittenOrCutShort sink old new (codes "script " ++ decimal (script + 1) ++ codes " failed")

  -- The first script that is refused is too long, and the line names it.
  pub record SourceTooLong (before after : List S) (old new : O) : Type 0 where
    pub script : ℕ
    pub was : S
    pub now : S
    pub first : IsFirstToFail source script was now before after
    pub too_long : IsTooLong source was now
    pub told : IsLineWrittenOrCutShort sink old new (codes "script " ++ decimal (script + 1) ++ codes " too long")
