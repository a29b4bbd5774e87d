use Rattle.std.proofs.Common.{◌≡◌, ◌-◌, ◌*◌, ◌≤◌, length, map, take}
use Rattle.rom_carry.specs.Scripts.{between, script_of}
use Rattle.rom_order_carry.specs.Entries.{entries_in, entry_line}
use Rattle.rom_order_carry.proofs.entries.EntriesWritten.lines_len.Given as goal

-- the bytes of the lines so far
abbrev pub invariant-loop-index : goal.invariant-loop-index
invariant-loop-index l = record {
  from : l.from ≤ l.index;
  total_is : l.total ≡ length (script_of (take (l.index - l.from) (between l.from l.to (map entry_line (entries_in l.self)))));
  most : l.total ≤ 46 * (l.index - l.from);
}
