-- What is told of words, if they are, and that a line is told.
use Rattle.std.specs.Prelude.{ℕ, Bool, true, false, IsTrue, List, Some, None, IfSome, if◌then◌else◌}
use Rattle.std.proofs.Common.{inl, inr, refl}
use Rattle.rom_text.specs.Runs.{IsLineWrittenOrCutShort}
use Rattle.rom_text.specs.Streams.{ShownSink, StopsWriting}

pub if_told : (b : Bool) (words : List ℕ) (P : List ℕ → Type 0) → (IsTrue b → P words) → IfSome (if b then Some words else None) P
if_told true words P told = told refl
if_told false words P told = tt

-- a line that is told, whole or cut short, ends at a write that failed
pub writing_told : {K : Type 0} (sink : ShownSink K) (old new : K) (line : List ℕ) → IsLineWrittenOrCutShort sink old new line → StopsWriting sink old new
writing_told sink old new line (inl whole) = inl whole.1
writing_told sink old new line (inr cut) = inr cut.1
