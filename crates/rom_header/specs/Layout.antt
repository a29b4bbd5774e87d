-- Where the words of a heap stand on a device.
use Rattle.std.specs.Prelude.{ℕ, ◌+◌, ◌*◌, List, take, drop}
use Rattle.rom_model.specs.Blocks.{region_len}

-- the first word of a heap, the ASCII letters ROMULUS1
abbrev pub MAGIC : ℕ
MAGIC = 0x524F4D554C555331

-- where the state stands
abbrev pub STATE : ℕ
STATE = 3

-- where main begins
abbrev pub MAIN : ℕ
MAIN = 8

-- where back begins, in a heap of order n
abbrev pub back_at : ℕ → ℕ
back_at n = 8 + region_len n

-- how many words a device needs for the heap
abbrev pub words_needed : ℕ → ℕ
words_needed n = 8 + 2 * region_len n

-- so many words from a place on
abbrev pub part : ℕ → ℕ → List ℕ → List ℕ
part at len words = take len (drop at words)

-- the words of main
abbrev pub main_of : ℕ → List ℕ → List ℕ
main_of n words = part MAIN (region_len n) words

-- the words of back
abbrev pub back_of : ℕ → List ℕ → List ℕ
back_of n words = part (back_at n) (region_len n) words
