use Rattle.std.proofs.Common.{◌≡◌, ◌-◌, ◌*◌, ◌≤◌, length, take}
use Rattle.rom_carry.specs.Scripts.{between, script_of}
use Rattle.rom_rebuild.specs.Elements.{elements_in}
use Rattle.rom_rebuild.specs.Lines.{element_lines}
use Rattle.rom_rebuild.proofs.lines.lines_len.Given as goal

-- the bytes of the lines so far
abbrev pub invariant-loop-number : goal.invariant-loop-number
invariant-loop-number l = record {
  from : l.from ≤ l.number;
  total_is : l.total ≡ length (script_of (take (l.number - l.from) (between l.from l.to (element_lines (elements_in l.elements)))));
  most : l.total ≤ 385 * (l.number - l.from);
}
