use Rattle.std.proofs.Common.{◌-◌, ◌≤◌, take}
use Rattle.rom_carry.specs.Scripts.{between, script_of}
use Rattle.rom_rebuild.specs.Elements.{elements_in}
use Rattle.rom_rebuild.specs.Lines.{element_lines}
use Rattle.rom_text.proofs.Prints.{Printed}
use Rattle.rom_rebuild.proofs.lines.print_lines.Given as goal

-- the lines so far are printed
abbrev pub invariant-loop-number : goal.invariant-loop-number
invariant-loop-number g l = record {
  from : l.from ≤ l.number;
  printed : Printed g.O.Sink.shown l.fn.out l.out (script_of (take (l.number - l.from) (between l.from l.to (element_lines (elements_in l.elements)))));
}
