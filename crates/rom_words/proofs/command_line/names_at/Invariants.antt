use Rattle.std.proofs.Common.{◌≡◌, take}
use Rattle.rom_words.specs.Wanted.{texts}
use Rattle.rom_words.proofs.command_line.names_at.Given as goal

-- the values so far are named
abbrev pub invariant-loop-text : goal.invariant-loop-text
invariant-loop-text l = l.names ≡ texts (take l.text-index l.text-items)
