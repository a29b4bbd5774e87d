-- What a contract sees of words read ahead.
use Rattle.std.specs.Prelude.{◌≡◌, ◌≢◌, ◌⊎◌, ℕ, ◌+◌, ◌<◌, ◌≤◌, List, slice_index, Option, Some, None, IfSome}
use Rattle.rom_device.specs.Run.{word_of_run}
use Rattle.rom_device.specs.declared.run.Run.{Run}
use Rattle.rom_device.specs.declared.windows.Windows.{Windows}

-- the first word, or the other where there is none
abbrev pub first_some : Option ℕ → Option ℕ → Option ℕ
first_some None other = other
first_some (Some word) other = Some word

-- the word at that place, where a window has it
abbrev pub word_in : Windows → ℕ → Option ℕ
word_in windows at = first_some (word_of_run windows.left at) (word_of_run windows.right at)

-- no window has the word at that place
abbrev pub IsMissed : Windows → ℕ → Type 0
IsMissed windows at = (word_of_run windows.left at ≡ None) × (word_of_run windows.right at ≡ None)

-- one of the windows has this word at that place
abbrev pub IsRead : Windows → ℕ → ℕ → Type 0
IsRead windows at word = (word_of_run windows.left at ≡ Some word) ⊎ (word_of_run windows.right at ≡ Some word)

-- whatever word a window has is the word that waits, where one waits
abbrev pub HasSame : Run → Run → Type 0
HasSame waiting window = (b word seen : ℕ) → word_of_run waiting b ≡ Some word → word_of_run window b ≡ Some seen → seen ≡ word

-- whatever word either window has is the word that waits, where one waits
abbrev pub Agrees : Run → Windows → Type 0
Agrees waiting windows = HasSame waiting windows.left × HasSame waiting windows.right

-- a window has this value at that place, where it has that place, and the others as before
abbrev pub Puts : ℕ → ℕ → Run → Run → Type 0
Puts at value old new = IfSome (word_of_run new at) (λ word. word ≡ value) × ((b : ℕ) → b ≢ at → word_of_run new b ≡ word_of_run old b)

-- the windows have the first of these values, so many from that place on, where they have those places, and elsewhere the words as before
pub record PutsMany (at count : ℕ) (values : List ℕ) (old new : Windows) : Type 0 where
  pub here : (k : ℕ) → k < count → IfSome (word_in new (at + k)) (λ word. word ≡ slice_index values k)
  pub before : (b : ℕ) → b < at → word_in new b ≡ word_in old b
  pub behind : (b : ℕ) → at + count ≤ b → word_in new b ≡ word_in old b

-- a window is as before, or has none but the 512 words from that place on
abbrev pub ReadsWindow : ℕ → Run → Run → Type 0
ReadsWindow first old new = (new ≡ old) ⊎ (((b : ℕ) → b < first → word_of_run new b ≡ None) × ((b : ℕ) → first + 512 ≤ b → word_of_run new b ≡ None))

-- no window has any of the 512 words from the first that waits on
abbrev pub IsApart : Run → Windows → Type 0
IsApart waiting windows = (b : ℕ) → waiting.first ≤ b → b < waiting.first + 512 → IsMissed windows b

-- a window is as before, or has words of these alone
abbrev pub ReadsOf : List ℕ → Run → Run → Type 0
ReadsOf words old new = (new ≡ old) ⊎ ((b seen : ℕ) → word_of_run new b ≡ Some seen → seen ≡ slice_index words b)

-- whatever word a window has is the one of these
abbrev pub Knows : Windows → List ℕ → Type 0
Knows windows words = ((b seen : ℕ) → word_of_run windows.left b ≡ Some seen → seen ≡ slice_index words b) × ((b seen : ℕ) → word_of_run windows.right b ≡ Some seen → seen ≡ slice_index words b)
