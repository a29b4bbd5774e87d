-- What a contract sees of a page of a medium.
use Rattle.std.specs.Prelude.{◌≡◌, ℕ, ◌+◌, ◌*◌, ◌<◌, List, drop, length, slice_index}
use Rattle.byteorder.specs.Endian.{little_number}
use Rattle.rom_device.specs.declared.page.Page.{Page}

-- the word of that number, the lowest byte first
unfoldable pub page_word : Page → ℕ → ℕ
page_word page k = little_number 8 (drop (8 * k) page.bytes)

-- these are its words from that number on
abbrev pub HasWordsAt : Page → ℕ → List ℕ → Type 0
HasWordsAt page index words = (k : ℕ) → k < length words → slice_index words k ≡ page_word page (index + k)
