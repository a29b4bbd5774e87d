-- What streams of bytes show of themselves, what single calls do to them, and what runs of calls take from a source and give to a sink.
use Rattle.std.specs.Prelude.{◌≡◌, ◌==◌, ℕ, Bool, true, List, take, if◌then◌else◌, is_err, Option, Result, Ok, Err, MatchResult}
use Rattle.std.specs.Io.KnownBytes.{Appends, Consumes}
use Rattle.rom_model.specs.Faults.{FailedLast, HasCause, StopsAtFault, counted}

-- Bytes that are read piece by piece.
pub record ShownSource (S : Type 0) : Type 1 where
  -- the bytes that are left, where it tells them
  pub left : S → Option (List ℕ)
  -- how many reads failed, up to 2 ^ 64 - 1
  pub faults : S → ℕ
  -- how many reads gave no byte, by a failure or at the end, up to 2 ^ 64 - 1, and whether the last read gave none
  pub idle : S → ℕ
  pub ended : S → Bool

-- Bytes that are written piece by piece.
pub record ShownSink (O : Type 0) : Type 1 where
  -- the bytes that were taken, where it tells them
  pub taken : O → Option (List ℕ)
  -- how many writes failed, up to 2 ^ 64 - 1, and whether the last one did
  pub faults : O → ℕ
  pub failing : O → Bool
  -- what else contracts must know of it, which no write changes
  pub Rest : Type 0
  pub rest : O → Rest

-- whether a read gave no byte
abbrev pub is_idle : {E : Type 0} → Result ℕ E → Bool
is_idle (Ok n) = n == 0
is_idle (Err e) = true

-- such bytes were taken from a source
pub record TakesBytes (Such : List ℕ → Type 0) (old new : Option (List ℕ)) : Type 0 where
  pub bytes : List ℕ
  pub consumed : Consumes old new bytes
  pub such : Such bytes

-- the sink has taken some of the text, from its front
abbrev pub AppendsFront : Option (List ℕ) → Option (List ℕ) → List ℕ → Type 0
AppendsFront old new text = (n : ℕ) × Appends old new (take n text)

-- at `Ok` the sink has taken the text, and else some of it, from its front
abbrev pub AppendsText : {T E : Type 0} → Option (List ℕ) → Option (List ℕ) → Result T E → List ℕ → Type 0
AppendsText old new result text = MatchResult result (λ _. Appends old new text) (λ _. AppendsFront old new text)

module _ {S : Type 0} (shown : ShownSource S) where
  -- One read: a fault is counted exactly where it fails, and an idle read exactly where it gives no byte.
  pub record CountsRead {E : Type 0} (old new : S) (result : Result ℕ E) : Type 0 where
    pub faults : shown.faults new ≡ (if is_err result then counted (shown.faults old) else shown.faults old)
    pub idle : shown.idle new ≡ (if is_idle result then counted (shown.idle old) else shown.idle old)
    pub ended : shown.ended new ≡ is_idle result

  -- Of a source's reads each gave some byte, or all but the last one: none was made after a failure or after the end.
  pub record IsAskedOnce (old new : S) : Type 0 where
    pub idle : StopsAtFault (shown.idle old) (shown.idle new) (shown.ended new)
    pub faults : StopsAtFault (shown.faults old) (shown.faults new) (shown.ended new)

  -- Of a source's reads the last one failed, and each before it gave some byte.
  pub record ReadFailed (old new : S) : Type 0 where
    pub once : shown.faults new ≡ counted (shown.faults old)
    pub last : FailedLast (shown.idle old) (shown.idle new) (shown.ended new)

module _ {O : Type 0} (shown : ShownSink O) where
  -- One write: a fault is counted exactly where it fails.
  pub record CountsWrite {E : Type 0} (old new : O) (result : Result ℕ E) : Type 0 where
    pub faults : shown.faults new ≡ (if is_err result then counted (shown.faults old) else shown.faults old)
    pub failing : shown.failing new ≡ is_err result
    pub rest : shown.rest new ≡ shown.rest old

  -- Printing a text: it is written, or some of it from its front, and then the last write failed and no other.
  pub record Prints {T E : Type 0} (old new : O) (result : Result T E) (text : List ℕ) : Type 0 where
    pub bytes : AppendsText (shown.taken old) (shown.taken new) result text
    pub cause : HasCause (shown.faults old) (shown.faults new) (shown.failing new) result
    pub rest : shown.rest new ≡ shown.rest old

  -- of a sink's writes the last one failed, and no other
  abbrev pub WriteFailed : O → O → Type 0
  WriteFailed old new = FailedLast (shown.faults old) (shown.faults new) (shown.failing new)

  -- of its writes none failed, or the last one alone
  abbrev pub StopsWriting : O → O → Type 0
  StopsWriting old new = StopsAtFault (shown.faults old) (shown.faults new) (shown.failing new)
