-- What is left while a whole heap is put where none is.
use Rattle.std.specs.Prelude.{◌≡◌, ◌≢◌, ◌⊎◌, ℕ, ◌<◌, ◌≤◌, List, Result, Ok, Err, length, slice_index}
use Rattle.rom_header.specs.Layout.{MAGIC}
use Rattle.rom_header.specs.declared.fresh.FormatRefused.{FormatRefused}
use Rattle.rom_header.specs.declared.fresh.FormatRefused.TheVariants.{AlreadyAHeap, TooSmall, Device}

-- the words begin with these
abbrev pub BeginsWith : List ℕ → List ℕ → Type 0
BeginsWith front words = (k : ℕ) → k < length front → slice_index words k ≡ slice_index front k

-- no heap stands there, or the whole new one
abbrev pub NoneOrWhole : List ℕ → List ℕ → Type 0
NoneOrWhole whole words = (slice_index words 0 ≢ MAGIC) ⊎ BeginsWith whole words

-- a heap stands there already, or there are too few words for this one
abbrev pub IsPutRefused : List ℕ → List ℕ → Type 0
IsPutRefused whole words = (slice_index words 0 ≡ MAGIC) ⊎ (length words < length whole)

-- The answer to the putting of a heap among these words: the refusals come in this order, and at `Ok` neither holds.
abbrev pub IsPutAnswer : List ℕ → List ℕ → Result (Unit {0}) FormatRefused → Type 0
IsPutAnswer whole words (Ok done) = (slice_index words 0 ≢ MAGIC) × (length whole ≤ length words)
IsPutAnswer whole words (Err AlreadyAHeap) = slice_index words 0 ≡ MAGIC
IsPutAnswer whole words (Err (TooSmall need have)) = (slice_index words 0 ≢ MAGIC) × (need ≡ length whole) × (have ≡ length words) × (have < need)
IsPutAnswer whole words (Err Device) = Unit {0}

-- A refusal for too few words names how many words there are to put, and how many the device has, which are fewer.
abbrev pub HasTooFewFor : ℕ → ℕ → FormatRefused → Type 0
HasTooFewFor count size (TooSmall need have) = (need ≡ count) × (have ≡ size) × (have < need)
HasTooFewFor count size other = Unit {0}

-- the writes of a putting of so many words: of each, and none where it is refused
abbrev pub put_writes : ℕ → Result (Unit {0}) FormatRefused → ℕ
put_writes count (Ok done) = count
put_writes count (Err Device) = count
put_writes count (Err other) = 0
