-- Messages in a stream of bytes, each of which begins with the number of its words, and what the next bytes of a stream are.
use Rattle.std.specs.Prelude.{◌≡◌, ◌⊎◌, ℕ, ◌+◌, ◌-◌, ◌*◌, ◌<◌, ◌≤◌, List, [], length, take}
use Rattle.byteorder.specs.Endian.{little_number}
use Rattle.rom_text.specs.Limits.{CameToEnd}
use Rattle.rom_text.specs.Streams.{ReadFailed, ShownSource}
use Rattle.rom_frame.specs.declared.stream.message.MessageKind.{MessageKind}
use Rattle.rom_frame.specs.declared.stream.message.MessageKind.TheVariants.{Whole, End, Broken, Failed, TooLong}
use Rattle.rom_frame.specs.declared.stream.message.TheConstants.{MAX_STREAM}

-- the first word, of eight bytes, the lowest first
abbrev pub first_word : List ℕ → ℕ
first_word bytes = little_number 8 bytes

-- a message has 4 to 64 words
abbrev pub IsCount : ℕ → Type 0
IsCount words = (4 ≤ words) × (words ≤ 64)

-- The bytes are those of one message, from its first to its last: their first word is how many words they are.
pub record IsMessage (bytes : List ℕ) : Type 0 where
  pub count : IsCount (first_word bytes)
  pub whole : length bytes ≡ 8 * first_word bytes

-- Bytes of a message are missing, as far as these tell: its first word isn't there, or they are fewer than it says.
abbrev pub IsUnfinished : List ℕ → Type 0
IsUnfinished bytes = (length bytes < 8) ⊎ (IsCount (first_word bytes) × (length bytes < 8 * first_word bytes))

-- the first word is there, and is the number of no message's words
abbrev pub HasNoCount : List ℕ → Type 0
HasNoCount bytes = (length bytes ≡ 8) × (IsCount (first_word bytes) → ⊥)

module _ {S : Type 0} (shown : ShownSource S) where
  -- Each read of the source gave some byte.
  pub record GaveOn (old new : S) : Type 0 where
    pub idle : shown.idle new ≡ shown.idle old
    pub faults : shown.faults new ≡ shown.faults old

  module _ (taken : ℕ) (bytes : List ℕ) (old new : S) where
    -- Behind so many bytes of a stream these were read, and no others, before it was known what they are.
    abbrev pub IsMessageHeard : MessageKind → Type 0
    IsMessageHeard Whole = IsMessage bytes × (taken + length bytes ≤ MAX_STREAM) × GaveOn old new
    IsMessageHeard End = (bytes ≡ []) × CameToEnd shown old new
    IsMessageHeard Broken = (taken + length bytes ≤ MAX_STREAM) × ((HasNoCount bytes × GaveOn old new) ⊎ ((0 < length bytes) × IsUnfinished bytes × CameToEnd shown old new))
    IsMessageHeard Failed = (taken + length bytes ≤ MAX_STREAM) × IsUnfinished bytes × ReadFailed shown old new
    IsMessageHeard TooLong = (taken + length bytes ≡ MAX_STREAM + 1) × IsUnfinished (take (MAX_STREAM - taken) bytes) × GaveOn old new
