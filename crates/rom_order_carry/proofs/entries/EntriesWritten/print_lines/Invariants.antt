use Rattle.std.proofs.Common.{◌-◌, ◌≤◌, map, take}
use Rattle.rom_carry.specs.Scripts.{between, script_of}
use Rattle.rom_text.proofs.Prints.{Printed}
use Rattle.rom_order_carry.specs.Entries.{entries_in, entry_line}
use Rattle.rom_order_carry.proofs.entries.EntriesWritten.print_lines.Given as goal

-- the lines so far are printed
abbrev pub invariant-loop-index : goal.invariant-loop-index
invariant-loop-index g l = record {
  from : l.from ≤ l.index;
  printed : Printed g.K.Sink.shown l.fn.out l.out (script_of (take (l.index - l.from) (between l.from l.to (map entry_line (entries_in l.self)))));
}
