-- The entries of an ordered index, and their lines.
use Rattle.std.specs.Prelude.{◌≡◌, ℕ, ◌^◌, ◌<◌, List, ◌++◌, codes}
use Rattle.std.specs.FinMap as map
use Rattle.rom_text.specs.Lines.{spaced}
use Rattle.rom_carry.specs.Carried.{Bounds}
use Rattle.rom_order_region.specs.Region.{IndexContents}
use Rattle.rom_order_region.specs.State.{Pairs}
use Rattle.rom_order_carry.specs.declared.entries.Entries.{Entries}

-- those that were taken from a region
abbrev pub entries_in : Entries → List (ℕ × ℕ)
entries_in entries = entries.items.items

-- the line of an entry, which puts it into an index
abbrev pub entry_line : ℕ × ℕ → List ℕ
entry_line e = codes "put" ++ spaced e.0 ++ spaced e.1

-- its numbers have at most 64 bits
abbrev pub EntryFits : ℕ × ℕ → Type 0
EntryFits e = (e.0 < 2 ^ 64) × (e.1 < 2 ^ 64)

-- the longest line has two numbers of 20 digits; a part is within what a script may have; an index has at most 32,768 keys
abbrev pub ORDER_BOUNDS : Bounds
ORDER_BOUNDS = record { longest = 45; part = 20480; parts = 2 }

-- the words of a region of that order stand for an index with these entries, and for that count
abbrev pub Holds : ℕ → List ℕ → List (ℕ × ℕ) → ℕ → Type 0
Holds order words entries count = (s : Pairs) × (map.entries s ≡ entries) × IndexContents order words s count
