-- What a script may hold, and how the reading of one ends.
use Rattle.std.specs.Prelude.{◌≡◌, ◌≢◌, ◌⊎◌, ℕ, ◌+◌, ◌<◌, ◌≤◌, List, length, Result, Err, OnOk}
use Rattle.std.specs.Io.KnownBytes.{IsAtEnd}
use Rattle.rom_model.specs.Faults.{FailedLast}
use Rattle.rom_text.specs.declared.read.TheConstants.{MAX_BYTES, MAX_LINES}
use Rattle.rom_text.specs.declared.read.ReadRefused.{ReadRefused}
use Rattle.rom_text.specs.declared.read.ReadRefused.TheVariants.{Failed, TooLong}
use Rattle.rom_text.specs.Lines.{lines_of}
use Rattle.rom_text.specs.Streams.{ShownSource, IsAskedOnce, ReadFailed, TakesBytes}

-- the bytes are no more than a script may have
abbrev pub IsWithinLimit : List ℕ → Type 0
IsWithinLimit bytes = length bytes ≤ MAX_BYTES

-- the lines of the bytes are no more than a script may have
abbrev pub HasFewLines : List ℕ → Type 0
HasFewLines bytes = length (lines_of bytes) ≤ MAX_LINES

-- they are more than that
abbrev pub HasManyLines : List ℕ → Type 0
HasManyLines bytes = MAX_LINES < length (lines_of bytes)

-- a whole script may hold these bytes
abbrev pub FitsScript : List ℕ → Type 0
FitsScript bytes = IsWithinLimit bytes × HasFewLines bytes

-- the bytes are the first that are too many
abbrev pub IsFirstTooMany : List ℕ → Type 0
IsFirstTooMany bytes = length bytes ≡ MAX_BYTES + 1

-- no more of a script is ever read
abbrev pub IsReadAtMost : List ℕ → Type 0
IsReadAtMost bytes = length bytes ≤ MAX_BYTES + 1

module _ {S : Type 0} (shown : ShownSource S) where
  -- A source came to its end: no read failed, the last one gave no byte, and each before it gave some.
  pub record CameToEnd (old new : S) : Type 0 where
    pub at_end : IsAtEnd (shown.left new)
    pub last : FailedLast (shown.idle old) (shown.idle new) (shown.ended new)
    pub unfailed : shown.faults new ≡ shown.faults old

  -- The first bytes that are too many were taken, some by each read.
  pub record HasTooManyBytes (old new : S) : Type 0 where
    pub takes : TakesBytes IsFirstTooMany (shown.left old) (shown.left new)
    pub unbroken : shown.idle new ≡ shown.idle old

  -- All bytes were taken up to the end. They are no more than a script may have, but their lines are.
  pub record HasTooManyLines (old new : S) : Type 0 where
    pub ended : CameToEnd old new
    pub takes : TakesBytes (λ bytes. IsWithinLimit bytes × HasManyLines bytes) (shown.left old) (shown.left new)

  -- a source has given more than a script may hold
  abbrev pub IsTooLong : S → S → Type 0
  IsTooLong old new = HasTooManyBytes old new ⊎ HasTooManyLines old new

  -- A source failed before it had given more bytes than a script may have.
  pub record FailedEarly (old new : S) : Type 0 where
    pub cause : ReadFailed shown old new
    pub takes : TakesBytes IsWithinLimit (shown.left old) (shown.left new)

  -- How the reading of a source to its end ends, if this is what makes it too long. Each refusal has its cause, and no read follows one that gave no byte.
  pub record EndsUnless (IsTooMuch : S → S → Type 0) {T : Type 0} (old new : S) (result : Result T ReadRefused) : Type 0 where
    pub to_its_end : OnOk result (CameToEnd old new)
    pub failed : result ≡ Err Failed → FailedEarly old new
    pub unfailed : result ≢ Err Failed → shown.faults new ≡ shown.faults old
    pub too_long : result ≡ Err TooLong → IsTooMuch old new
    pub takes : TakesBytes IsReadAtMost (shown.left old) (shown.left new)
    pub asked_once : IsAskedOnce shown old new

  -- of its bytes, whatever their lines are
  abbrev pub EndsReadingBytes : {T : Type 0} → S → S → Result T ReadRefused → Type 0
  EndsReadingBytes = EndsUnless HasTooManyBytes

  -- of a whole script
  abbrev pub EndsReading : {T : Type 0} → S → S → Result T ReadRefused → Type 0
  EndsReading = EndsUnless IsTooLong
