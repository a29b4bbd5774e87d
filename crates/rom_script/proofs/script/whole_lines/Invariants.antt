use Rattle.std.proofs.Common.{◌≡◌, take}
use Rattle.rom_script.proofs.script.whole_lines.Given as goal

-- the lines so far are those of the script
abbrev pub invariant-loop-i : goal.invariant-loop-i
invariant-loop-i l = l.lines.items ≡ take l.i l.script.items
