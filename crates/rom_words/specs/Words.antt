-- The words of the command line.
use Rattle.std.specs.Prelude.{ℕ, ◌+◌, ◌==◌, ◌&&◌, nat_lt, Bool, false, List, [], ◌∷◌, length, codes, Option, Some, None, option_map, option_and_then, if◌then◌else◌}
use Rattle.std.specs.List.{list_all, position_or_len, before_first, after_first}
use Rattle.std.specs.Str.{bytes_eq}
pub use Rattle.rom_text.specs.Phrases.{number_within}

-- what the words ask for
pub data Command : Type 0 where
  -- run the scripts on a new heap
  Try : List (List ℕ) → Command
  -- run the scripts on the heap in the file
  Run : List ℕ → List (List ℕ) → Command
  -- make a new heap of this order in the file
  Format : List ℕ → ℕ → Command
  -- print the sizes of the heap in the file
  Stat : List ℕ → Command
  -- give the heap in the file, whose region is of version 1, one of version 2
  Upgrade : List ℕ → Command
  -- run drawn calls on a new heap: where the drawing starts, how many callers there are, and how many calls each has
  Drill : ℕ → ℕ → ℕ → Command

-- ---- plain words and options

-- what a word before a `--` is
pub data Sort : Type 0 where
  -- `--`
  Ends : Sort
  -- `--NAME=VALUE`
  Gives : List ℕ → List ℕ → Sort
  -- `--NAME`
  Opens : List ℕ → Sort
  -- a word that doesn't begin with a dash (45), or is a dash alone
  Stands : Sort
  -- a longer word that begins with one dash
  Refused : Sort

-- whether a byte is `=` (61)
abbrev pub is_equals : ℕ → Bool
is_equals b = b == 61

-- what a word is with this behind its two dashes; a value stands behind the first `=` (61)
abbrev pub behind_dashes : List ℕ → Sort
behind_dashes [] = Ends
behind_dashes (b ∷ bs) =
    if nat_lt (position_or_len is_equals (b ∷ bs)) (length (b ∷ bs))
    then Gives (before_first is_equals (b ∷ bs)) (after_first is_equals (b ∷ bs))
    else Opens (b ∷ bs)

-- what a word is with this behind a first dash
abbrev pub behind_dash : List ℕ → Sort
behind_dash [] = Stands
behind_dash (b ∷ bs) = if b == 45 then behind_dashes bs else Refused

-- what a word is, where no `--` stands before it and no option waits for its value
abbrev pub sort_of : List ℕ → Sort
sort_of [] = Stands
sort_of (b ∷ bs) = if b == 45 then behind_dash bs else Stands

-- whether a word begins with a dash (45)
abbrev pub begins_with_dash : List ℕ → Bool
begins_with_dash [] = false
begins_with_dash (b ∷ bs) = b == 45

-- behind the command's name: the plain words, and the options with their values, each in order
pub record Said : Type 0 where
  pub plain : List (List ℕ)
  pub options : List (List ℕ × List ℕ)

-- what a plain word says with the words behind it, of which is given what they say
abbrev pub with_plain : List ℕ → Option Said → Option Said
with_plain word = option_map (λ s. record { plain = word ∷ s.plain; options = s.options })

-- what an option with its value says with the words behind it, of which is given what they say
abbrev pub with_option : List ℕ → List ℕ → Option Said → Option Said
with_option name value = option_map (λ s. record { plain = s.plain; options = (name, value) ∷ s.options })

-- a word of this sort, with these words behind it; `behind` is what these say, where an option waits for its value or none does
abbrev pub said_by : Sort → List ℕ → List (List ℕ) → (Option (List ℕ) → Option Said) → Option Said
said_by Ends word words behind = Some (record { plain = words; options = [] })
said_by (Gives name value) word words behind = with_option name value (behind None)
said_by (Opens name) word words behind = behind (Some name)
said_by Stands word words behind = with_plain word (behind None)
said_by Refused word words behind = None

-- what words say, if they are plain words and options, where the option of this name waits for its value or none does
-- It goes from the first word on: which word is an option's value depends on the one before it.
abbrev pub said : List (List ℕ) → Option (List ℕ) → Option Said
said [] None = Some (record { plain = []; options = [] })
said [] (Some name) = None
said (word ∷ words) None = said_by (sort_of word) word words (said words)
said (word ∷ words) (Some name) = if begins_with_dash word then None else with_option name word (said words None)

-- ---- commands

-- whether a word isn't empty
abbrev pub has_bytes : List ℕ → Bool
has_bytes word = nat_lt 0 (length word)

-- how many scripts there may be: each has a caller of its own
abbrev pub MOST_SCRIPTS : ℕ
MOST_SCRIPTS = 16

-- the words name scripts: there are 1 to 16, and none is empty
abbrev pub are_scripts : List (List ℕ) → Bool
are_scripts words = nat_lt 0 (length words) && nat_lt (length words) (MOST_SCRIPTS + 1) && list_all has_bytes words

-- what plain words and options behind `try` ask for
abbrev pub try_command : List (List ℕ) → List (List ℕ × List ℕ) → Option Command
try_command scripts [] = if are_scripts scripts then Some (Try scripts) else None
try_command scripts (option ∷ options) = None

-- behind `run`
abbrev pub run_command : List (List ℕ) → List (List ℕ × List ℕ) → Option Command
run_command (file ∷ scripts) [] = if has_bytes file && are_scripts scripts then Some (Run file scripts) else None
run_command plain options = None

-- behind `format`
abbrev pub format_command : List (List ℕ) → List (List ℕ × List ℕ) → Option Command
format_command (file ∷ []) (option ∷ []) =
    if has_bytes file && bytes_eq option.0 (codes "order") then option_map (Format file) (number_within 4 16 option.1) else None
format_command plain options = None

-- the file that is the one plain word, where there is no option
abbrev pub file_alone : List (List ℕ) → List (List ℕ × List ℕ) → Option (List ℕ)
file_alone (file ∷ []) [] = if has_bytes file then Some file else None
file_alone plain options = None

-- behind `stat`
abbrev pub stat_command : List (List ℕ) → List (List ℕ × List ℕ) → Option Command
stat_command plain options = option_map Stat (file_alone plain options)

-- behind `upgrade`
abbrev pub upgrade_command : List (List ℕ) → List (List ℕ × List ℕ) → Option Command
upgrade_command plain options = option_map Upgrade (file_alone plain options)

-- a drill of this start, so many callers and so many calls, where all three are there
abbrev pub drill_from : Option ℕ → Option ℕ → Option ℕ → Option Command
drill_from (Some start) (Some callers) (Some calls) = Some (Drill start callers calls)
drill_from _ _ _ = None

-- the values of an option of each of these names, where there are no others
abbrev pub both_of : List ℕ → List ℕ → List (List ℕ × List ℕ) → Option (List ℕ × List ℕ)
both_of one other (a ∷ b ∷ []) =
    if bytes_eq a.0 one && bytes_eq b.0 other then Some (a.1, b.1) else
    if bytes_eq a.0 other && bytes_eq b.0 one then Some (b.1, a.1) else None
both_of one other options = None

-- behind `drill`
abbrev pub drill_command : List (List ℕ) → List (List ℕ × List ℕ) → Option Command
drill_command (start ∷ []) options =
    option_and_then (λ values. drill_from (number_within 0 18446744073709551615 start) (number_within 1 16 values.0) (number_within 1 10000 values.1))
    (both_of (codes "callers") (codes "calls") options)
drill_command plain options = None

-- the command of this name, with these plain words and options
abbrev pub command_of : List ℕ → Said → Option Command
command_of name s =
    if bytes_eq name (codes "try") then try_command s.plain s.options else
    if bytes_eq name (codes "run") then run_command s.plain s.options else
    if bytes_eq name (codes "format") then format_command s.plain s.options else
    if bytes_eq name (codes "stat") then stat_command s.plain s.options else
    if bytes_eq name (codes "upgrade") then upgrade_command s.plain s.options else
    if bytes_eq name (codes "drill") then drill_command s.plain s.options else None

-- the command that the words are, if they are one
abbrev pub command : List (List ℕ) → Option Command
command [] = None
command (name ∷ words) = option_and_then (command_of name) (said words None)

-- the scripts that a command names
abbrev pub scripts_of : Option Command → List (List ℕ)
scripts_of (Some (Try scripts)) = scripts
scripts_of (Some (Run file scripts)) = scripts
scripts_of (Some (Format file order)) = []
scripts_of (Some (Stat file)) = []
scripts_of (Some (Upgrade file)) = []
scripts_of (Some (Drill start callers calls)) = []
scripts_of None = []
