-- The words of the command line.
use Rattle.std.specs.Prelude.{ℕ, ◌&&◌, List, [], ◌∷◌, codes, Option, Some, None, is_none, option_and_then, if◌then◌else◌}
use Rattle.std.specs.Str.{bytes_eq}
use Rattle.rom_run.specs.Plain.{is_name}
use Rattle.rom_text.specs.Phrases.{number_within}
use Rattle.rom_open.specs.declared.view.alone.Region.{Region}
use Rattle.rom_open.specs.declared.view.alone.Region.TheVariants.{Main, Back}

-- what the words ask for
pub data DumpCommand : Type 0 where
  -- print the script of the heap in the file, or that part of it, counted from 1; by the region of that name, if one is named
  Script : List ℕ → Option Region → Option ℕ → DumpCommand
  -- say which region of the heap in the file counts, and its sizes; or those of the region of that name
  Check : List ℕ → Option Region → DumpCommand
  -- say what a monitor watches of the heap in the file
  Metrics : List ℕ → DumpCommand

-- the region of that name
abbrev pub region_named : List ℕ → Option Region
region_named name = if bytes_eq name (codes "main") then Some Main else if bytes_eq name (codes "back") then Some Back else None

-- the region behind `--from`
abbrev pub from_words : List ℕ → List ℕ → Option Region
from_words option name = if bytes_eq option (codes "--from") then region_named name else None

-- the part behind `--part`: no script has more than 64
abbrev pub part_words : List ℕ → List ℕ → Option ℕ
part_words option part = if bytes_eq option (codes "--part") then number_within 1 64 part else None

-- one of them stands there
abbrev pub region_or_part : Option Region → Option ℕ → Option (Option Region × Option ℕ)
region_or_part (Some name) part = Some (Some name, None)
region_or_part None (Some part) = Some (None, Some part)
region_or_part None None = None

-- or both do
abbrev pub region_and_part : Option Region → Option ℕ → Option (Option Region × Option ℕ)
region_and_part (Some name) (Some part) = Some (Some name, Some part)
region_and_part (Some name) None = None
region_and_part None part = None

-- what the words behind a file ask for, if all are well said: a region, then a part, and neither has to be there
abbrev pub options_of : List (List ℕ) → Option (Option Region × Option ℕ)
options_of [] = Some (None, None)
options_of (option ∷ value ∷ []) = region_or_part (from_words option value) (part_words option value)
options_of (from ∷ name ∷ option ∷ part ∷ []) = region_and_part (from_words from name) (part_words option part)
options_of words = None

-- the command of this name, of this file with these options; `check` has no parts, and `metrics` no options
abbrev pub dump_command_of : List ℕ → List ℕ → Option Region → Option ℕ → Option DumpCommand
dump_command_of name file from part =
    if bytes_eq name (codes "script") then Some (Script file from part) else
    if bytes_eq name (codes "check") && is_none part then Some (Check file from) else
    if bytes_eq name (codes "metrics") && (is_none from && is_none part) then Some (Metrics file) else None

-- the command that the words are, if they are one
abbrev pub dump_command : List (List ℕ) → Option DumpCommand
dump_command (name ∷ file ∷ options) =
    if is_name file then option_and_then (λ asked. dump_command_of name file asked.0 asked.1) (options_of options) else None
dump_command words = None

-- the file that it reads
abbrev pub file_of : Option DumpCommand → Option (List ℕ)
file_of (Some (Script file from part)) = Some file
file_of (Some (Check file from)) = Some file
file_of (Some (Metrics file)) = Some file
file_of None = None

-- the region that it names, if it names one
abbrev pub region_asked : DumpCommand → Option Region
region_asked (Script file from part) = from
region_asked (Check file from) = from
region_asked (Metrics file) = None
