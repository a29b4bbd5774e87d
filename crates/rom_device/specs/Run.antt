-- What a contract sees of some adjacent words of a medium.
use Rattle.std.specs.Prelude.{◌≡◌, ◌⊎◌, ℕ, ◌+◌, ◌-◌, ◌%◌, ◌<◌, ◌≢◌, nat_le, nat_lt, ◌&&◌, List, Option, None, Some, if◌then◌else◌}
use Rattle.rom_device.specs.Page.{page_word}
use Rattle.rom_device.specs.Laid.{firsts, laid}
use Rattle.rom_device.specs.declared.run.Run.{Run}

-- where that place is among the words
abbrev pub index_in : Run → ℕ → Option ℕ
index_in run at = if nat_le run.first at && nat_lt (at - run.first) run.count then Some (at - run.first) else None

-- the word at that place, where the run has it
abbrev pub word_of_run : Run → ℕ → Option ℕ
word_of_run run at = if nat_le run.first at && nat_lt (at - run.first) run.count then Some (page_word run.page (at - run.first)) else None

-- That place is the next, there is room for its word, and no page of the file begins there. Each
-- place is next to no words.
abbrev pub IsNextPlace : Run → ℕ → Type 0
IsNextPlace run at = (run.count ≡ 0) ⊎ ((run.count < 512) × (run.first + run.count ≡ at) × (at % 512 ≢ 0))

-- the word, or 0 where there is none
abbrev pub or_zero : Option ℕ → ℕ
or_zero None = 0
or_zero (Some word) = word

-- the word of that number among those that the run has
unfoldable pub nth_of : Run → ℕ → ℕ
nth_of run k = or_zero (word_of_run run (run.first + k))

-- the words that the run has
abbrev pub words_of_run : Run → List ℕ
words_of_run run = firsts (nth_of run) run.count

-- these words, with those of the run in their places
abbrev pub with_run : Run → List ℕ → List ℕ
with_run run words = laid run.first (nth_of run) run.count words
