-- Words without options: what each shape of them asks for, and the commands `try`, `run` and `format`.
use Rattle.std.specs.Prelude.{◌≡◌, ℕ, ◌+◌, ◌==◌, ◌&&◌, nat_lt, Bool, false, not, List, [], ◌∷◌, length, codes, Option, Some, None, option_map, if◌then◌else◌}
use Rattle.std.specs.List.{list_all}
use Rattle.std.specs.Str.{bytes_eq}
use Rattle.rom_header.specs.Layout.{words_needed}
use Rattle.rom_text.specs.Phrases.{number_within}
use Rattle.rom_text.specs.declared.wanted.DeviceWant.{DeviceWant}
use Rattle.rom_text.specs.declared.wanted.DeviceWant.TheVariants.{Nothing, Fresh, Old, Made}
use Rattle.rom_run.specs.Use.{Use, Plays, Makes, Read}
use Rattle.rom_run.specs.declared.heap.Heap.TheVariants.{New, Standing}

-- what the words ask for
pub data PlainCommand : Type 0 where
  -- run the scripts on a new heap
  Try : List (List ℕ) → PlainCommand
  -- run the scripts on the heap in the file
  Run : List ℕ → List (List ℕ) → PlainCommand
  -- do on the heap in the file what the stream says
  Follow : List ℕ → List ℕ → PlainCommand
  -- make a new heap of this order in the file
  Format : List ℕ → ℕ → PlainCommand

-- a name isn't empty, and doesn't begin with a dash (45)
abbrev pub is_name : List ℕ → Bool
is_name [] = false
is_name (b ∷ bs) = not (b == 45)

-- how many scripts there may be: each has a caller of its own
abbrev pub MOST_SCRIPTS : ℕ
MOST_SCRIPTS = 16

-- each of the words is a name
abbrev pub are_names : List (List ℕ) → Bool
are_names words = list_all is_name words

-- the words name scripts: there are 1 to 16
abbrev pub are_script_names : List (List ℕ) → Bool
are_script_names words = nat_lt 0 (length words) && nat_lt (length words) (MOST_SCRIPTS + 1) && are_names words

-- scripts alone
abbrev pub scripts_alone : List (List ℕ) → Option PlainCommand
scripts_alone scripts = if are_script_names scripts then Some (Try scripts) else None

-- a file, and then scripts
abbrev pub file_and_scripts : List (List ℕ) → Option PlainCommand
file_and_scripts [] = None
file_and_scripts (file ∷ scripts) = if is_name file && are_script_names scripts then Some (Run file scripts) else None

-- a file and a stream
abbrev pub file_and_stream : List (List ℕ) → Option PlainCommand
file_and_stream (file ∷ stream ∷ []) = if is_name file && is_name stream then Some (Follow file stream) else None
file_and_stream words = None

-- a file and an order
abbrev pub file_and_order : List (List ℕ) → Option PlainCommand
file_and_order (file ∷ order ∷ []) = if is_name file then option_map (Format file) (number_within 4 16 order) else None
file_and_order words = None

-- the command of this name, with these words behind it
abbrev pub plain_command_of : List ℕ → List (List ℕ) → Option PlainCommand
plain_command_of name words =
    if bytes_eq name (codes "try") then scripts_alone words else
    if bytes_eq name (codes "run") then file_and_scripts words else
    if bytes_eq name (codes "format") then file_and_order words else None

-- the command that the words are, if they are one
abbrev pub plain_command : List (List ℕ) → Option PlainCommand
plain_command [] = None
plain_command (name ∷ words) = plain_command_of name words

-- the scripts that it names, or its stream
abbrev pub plain_scripts : Option PlainCommand → List (List ℕ)
plain_scripts (Some (Try scripts)) = scripts
plain_scripts (Some (Run file scripts)) = scripts
plain_scripts (Some (Follow file stream)) = stream ∷ []
plain_scripts (Some (Format file order)) = []
plain_scripts None = []

-- the use that it makes of its device's heap, where that is no stream's to say
abbrev pub plain_use : Option PlainCommand → Option Use
plain_use (Some (Try scripts)) = Some (Plays (New 4) Read)
plain_use (Some (Run file scripts)) = Some (Plays Standing Read)
plain_use (Some (Follow file stream)) = None
plain_use (Some (Format file order)) = Some (Makes order)
plain_use None = None

-- the device that it works on: the words of a heap of order 4, a file that is there, or one that is lengthened to the words of its order
abbrev pub IsPlainWanted : Option PlainCommand → DeviceWant → Type 0
IsPlainWanted (Some (Try scripts)) device = device ≡ Fresh 232
IsPlainWanted (Some (Run file scripts)) device = device ≡ Old file
IsPlainWanted (Some (Follow file stream)) device = device ≡ Old file
IsPlainWanted (Some (Format file order)) device = device ≡ Made file (words_needed order)
IsPlainWanted None device = device ≡ Nothing
