-- The command that words were read as.
use Rattle.std.specs.Prelude.{ℕ, ◌≤◌, List, IfSome, Option, Some, None}
use Rattle.std.specs.Borrow.{Bor}
use Rattle.rom_dump.specs.Words.{DumpCommand, Script, Check, Metrics}
use Rattle.rom_dump.specs.declared.words.Dump.{Dump}
use Rattle.rom_dump.specs.declared.words.Dump.TheVariants as dump

-- the command that was read, if one was
abbrev pub dump_command_read : Option Dump → Option DumpCommand
dump_command_read (Some (dump.Script file from part)) = Some (Script file.now from part)
dump_command_read (Some (dump.Check file from)) = Some (Check file.now from)
dump_command_read (Some (dump.Metrics file)) = Some (Metrics file.now)
dump_command_read None = None

-- the file that was read, if one was
abbrev pub named_file : Option (Bor (List ℕ)) → Option (List ℕ)
named_file (Some file) = Some file.now
named_file None = None

-- a script has 64 parts at most
abbrev pub IsPartNumber : ℕ → Type 0
IsPartNumber part = (1 ≤ part) × (part ≤ 64)

-- a part that is asked for is one of them
abbrev pub AsksForPart : Dump → Type 0
AsksForPart (dump.Script file from part) = IfSome part IsPartNumber
AsksForPart (dump.Check file from) = Unit {0}
AsksForPart (dump.Metrics file) = Unit {0}
