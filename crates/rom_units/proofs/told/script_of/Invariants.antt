use Rattle.std.proofs.Common.{◌≡◌, take}
use Rattle.rom_units.proofs.told.script_of.Given as goal

-- the lines so far stand in the script
abbrev pub invariant-loop-line : goal.invariant-loop-line
invariant-loop-line l = l.script.items ≡ take l.line-index l.lines
