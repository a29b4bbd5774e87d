-- A new heap, and what a stop leaves while it is made.
use Rattle.std.specs.Prelude.{◌≡◌, ◌≢◌, ◌⊎◌, ℕ, ◌+◌, ◌<◌, ◌≤◌, List, length, slice_index, Result, Ok, Err}
use Rattle.rom_model.specs.Blocks.{region_len}
use Rattle.rom_header.specs.Layout.{words_needed, main_of, back_of, back_at, MAGIC, MAIN, STATE}
use Rattle.rom_header.specs.Regions.{IsHeap}
use Rattle.rom_header.specs.declared.fresh.FormatRefused.{FormatRefused}
use Rattle.rom_header.specs.declared.fresh.FormatRefused.TheVariants.{AlreadyAHeap, TooSmall, Device}

-- the words of the header that no object reads are zero: a new heap has no name
abbrev pub UnreadAreZero : List ℕ → Type 0
UnreadAreZero words = (slice_index words 4 ≡ 0) × (slice_index words 5 ≡ 0) × (slice_index words 6 ≡ 0) × (slice_index words 7 ≡ 0)

-- The words are a heap of this order whose state is IDLE, with zeros in the words that no object reads and this image in both regions.
pub record IsNewHeap (order : ℕ) (image words : List ℕ) : Type 0 where
  pub heap : IsHeap order words
  pub idle : slice_index words STATE ≡ 0
  pub unread : UnreadAreZero words
  pub main_is : main_of order words ≡ image
  pub back_is : back_of order words ≡ image

-- no heap stands there, or the whole new one
abbrev pub NoneOrNew : ℕ → List ℕ → List ℕ → Type 0
NoneOrNew order image words = (slice_index words 0 ≢ MAGIC) ⊎ IsNewHeap order image words

-- a heap stands there already, or there are too few words for one
abbrev pub IsFormatRefused : ℕ → List ℕ → Type 0
IsFormatRefused order words = (slice_index words 0 ≡ MAGIC) ⊎ (length words < words_needed order)

-- The answer to the making of a heap in these words: the refusals come in this order, and at `Ok` neither holds.
abbrev pub IsFormatAnswer : ℕ → List ℕ → Result (Unit {0}) FormatRefused → Type 0
IsFormatAnswer order words (Ok done) = (slice_index words 0 ≢ MAGIC) × (words_needed order ≤ length words)
IsFormatAnswer order words (Err AlreadyAHeap) = slice_index words 0 ≡ MAGIC
IsFormatAnswer order words (Err (TooSmall need have)) = (slice_index words 0 ≢ MAGIC) × (need ≡ words_needed order) × (have ≡ length words) × (have < need)
IsFormatAnswer order words (Err Device) = Unit {0}

-- A refusal for too few words names how many words a heap of this order needs, and how many the device has, which are fewer.
abbrev pub HasTooFewFor : ℕ → ℕ → FormatRefused → Type 0
HasTooFewFor order size (TooSmall need have) = (need ≡ words_needed order) × (have ≡ size) × (have < need)
HasTooFewFor order size other = Unit {0}

-- All but the magic of a new heap stands.
pub record IsLaid (order : ℕ) (image words : List ℕ) : Type 0 where
  pub version : slice_index words 1 ≡ 1
  pub order_is : slice_index words 2 ≡ order
  pub idle : slice_index words STATE ≡ 0
  pub unread : UnreadAreZero words
  pub main : (k : ℕ) → k < region_len order → slice_index words (MAIN + k) ≡ slice_index image k
  pub back : (k : ℕ) → k < region_len order → slice_index words (back_at order + k) ≡ slice_index image k
