use Rattle.std.proofs.Common.{◌-◌, ◌≤◌, take}
use Rattle.std.specs.List.{flat_map}
use Rattle.rom_rebuild.specs.Elements.{elements_in}
use Rattle.rom_rebuild.specs.Lines.{behind_text, span}
use Rattle.rom_text.proofs.Prints.{Printed}
use Rattle.rom_rebuild.proofs.group.print_behind.Given as goal

-- the elements so far are printed
abbrev pub invariant-loop-index : goal.invariant-loop-index
invariant-loop-index g l = record {
  from : l.from ≤ l.index;
  printed : Printed g.O.Sink.shown l.fn.out l.out (flat_map behind_text (take (l.index - l.from) (span l.from l.to (elements_in l.elements))));
}
