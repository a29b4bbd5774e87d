use Rattle.std.proofs.Common.{◌≡◌, ◌-◌, ◌*◌, ◌≤◌, length, take}
use Rattle.rom_carry.specs.Scripts.{between, script_of}
use Rattle.rom_blob_carry.specs.Lines.{lines_in}
use Rattle.rom_blob_carry.proofs.lines.BlobElementsWritten.lines_len.Given as goal

-- the bytes of the lines so far
abbrev pub invariant-loop-index : goal.invariant-loop-index
invariant-loop-index l = record {
  from : l.from ≤ l.index;
  total_is : l.total ≡ length (script_of (take (l.index - l.from) (between l.from l.to (lines_in l.self))));
  most : l.total ≤ 538 * (l.index - l.from);
}
