-- The words of the program's command line. It takes no options.
use Rattle.std.specs.Prelude.{ℕ, List, [], ◌∷◌, codes, Option, None, if◌then◌else◌}
use Rattle.std.specs.Str.{bytes_eq}
use Rattle.rom_run.specs.Plain.{PlainCommand, file_and_order, file_and_scripts, file_and_stream}

-- the command of this name, with these words behind it; to ship is to run scripts, and to tell of them in frames
abbrev pub replica_command_of : List ℕ → List (List ℕ) → Option PlainCommand
replica_command_of name words =
    if bytes_eq name (codes "ship") then file_and_scripts words else
    if bytes_eq name (codes "follow") then file_and_stream words else
    if bytes_eq name (codes "format") then file_and_order words else None

-- the command that the words are, if they are one
abbrev pub replica_command : List (List ℕ) → Option PlainCommand
replica_command [] = None
replica_command (name ∷ words) = replica_command_of name words
