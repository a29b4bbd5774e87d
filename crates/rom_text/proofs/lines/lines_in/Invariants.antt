use Rattle.std.proofs.Common.{◌≡◌, List, ◌++◌, ◌+◌, ◌-◌, ◌≤◌, length, drop}
use Rattle.rom_text.specs.declared.read.TheConstants.{MAX_LINES}
use Rattle.rom_text.specs.Lines.{AreRead, lines_of}
use Rattle.rom_text.proofs.lines.lines_in.Given as goal

-- the steps so far, and then those of the rest, are those of all the bytes
abbrev pub invariant-loop-start : goal.invariant-loop-start
invariant-loop-start g l = record {
  within : l.start ≤ length l.bytes;
  read : (more : List _) → AreRead g.L.Lines.Reads (lines_of (drop l.start l.bytes)) more → AreRead g.L.Lines.Reads (lines_of l.bytes) (l.lines.items ++ more);
  many : length (lines_of l.bytes) ≡ length l.lines.items + length (lines_of (drop l.start l.bytes));
  few : length l.lines.items ≤ MAX_LINES;
}

abbrev pub decreases-loop-start : goal.decreases-loop-start
decreases-loop-start g l = length l.bytes - l.start
