-- Where the shared words stand, and what they are for.
use Rattle.std.specs.Prelude.{ℕ, ◌+◌, ◌-◌, ◌*◌, ◌/◌, ◌%◌, ◌≤◌, List, ◌++◌, take, drop, slice_index, slice_set, replicate, ◌==◌, if◌then◌else◌}
use Rattle.rom_model.specs.Blocks.{region_len}
use Rattle.rom_rule.specs.declared.views.Base.{Base}

-- how many callers a table may have
abbrev pub AreCallers : ℕ → Type 0
AreCallers callers = (1 ≤ callers) × (callers ≤ 16)

-- the word that names the side that readers are sent to
abbrev pub side_at : ℕ
side_at = 0

-- the word that names the version that readers arrive at
abbrev pub version_at : ℕ
version_at = 1

-- how many read indicators there are: one for each caller and version
abbrev pub indicator_count : ℕ → ℕ
indicator_count callers = 2 * callers

-- a caller's indicator of a version
abbrev pub indicator_of : ℕ → ℕ → ℕ
indicator_of caller version = 2 * (caller - 1) + version

-- the caller of an indicator
abbrev pub caller_of_indicator : ℕ → ℕ
caller_of_indicator k = k / 2 + 1

-- the version of an indicator
abbrev pub version_of_indicator : ℕ → ℕ
version_of_indicator k = k % 2

-- Where it stands among the words of the indicators. A caller has eight of them, as many as a line of a processor's cache holds, so that no two callers' indicators share a line; the first two are its indicators, and the others are not used.
abbrev pub offset_of_indicator : ℕ → ℕ
offset_of_indicator k = 8 * (k / 2) + k % 2

-- the words 2 to 13 are not used
abbrev pub indicator_at : ℕ → ℕ
indicator_at k = 14 + offset_of_indicator k

-- where the first slot begins; a slot has 64 words
abbrev pub slots_at : ℕ → ℕ
slots_at callers = 14 + 8 * callers

-- the word of a slot that has the turn
abbrev pub TURN : ℕ
TURN = 0

-- where the posted call stands in a slot: the number of its words, then they
abbrev pub CALL : ℕ
CALL = 1

-- the word of a slot that has the answer's place, or its code
abbrev pub PLACE : ℕ
PLACE = 42

-- where the answer's reply stands in a slot: the number of its words, then they
abbrev pub REPLY : ℕ
REPLY = 43

-- word j of the slot of caller c
abbrev pub slot_at : ℕ → ℕ → ℕ → ℕ
slot_at callers c j = slots_at callers + (64 * (c - 1) + j)

-- Of a heap's order and a number of callers:
module _ (order callers : ℕ) where
  -- word i of shared main
  abbrev pub main_word_at : ℕ → ℕ
  main_word_at i = slots_at callers + 64 * callers + i

  -- word i of shared back
  abbrev pub back_word_at : ℕ → ℕ
  back_word_at i = slots_at callers + 64 * callers + region_len order + i

  -- word i of a side: 0 is main, 1 is back
  abbrev pub side_word_at : ℕ → ℕ → ℕ
  side_word_at side i = if side == 0 then main_word_at i else back_word_at i

  -- how many words the table has
  abbrev pub table_len : ℕ
  table_len = slots_at callers + 64 * callers + 2 * region_len order

-- The words by what they are for.
pub record Shown : Type 0 where
  pub side : ℕ
  pub version : ℕ
  pub indicators : List ℕ
  pub slots : List ℕ
  pub main : List ℕ
  pub back : List ℕ

-- the part of the words from that place on, so many of them
abbrev pub part : ℕ → ℕ → List ℕ → List ℕ
part from count words = take count (drop from words)

-- a table's words by what they are for
unfoldable pub shown : Base → List ℕ → Shown
shown b words = record {
  side = slice_index words 0;
  version = slice_index words 1;
  indicators = part 14 (8 * b.callers) words;
  slots = part (slots_at b.callers) (64 * b.callers) words;
  main = part (slots_at b.callers + 64 * b.callers) (region_len b.order) words;
  back = part (slots_at b.callers + 64 * b.callers + region_len b.order) (region_len b.order) words;
}

-- The words at the opening: readers are sent to back, no call is posted, and both sides hold the image.
abbrev pub opening_words : ℕ → List ℕ → List ℕ
opening_words callers image = (slice_set (replicate (slots_at callers + 64 * callers) 0) side_at 1 ++ image) ++ image
