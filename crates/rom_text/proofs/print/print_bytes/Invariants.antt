use Rattle.std.proofs.Common.{length, ◌-◌, ◌≤◌, take}
use Rattle.rom_text.proofs.Prints.{Printed}
use Rattle.rom_text.proofs.print.print_bytes.Given as goal

-- the sink has taken the bytes so far
abbrev pub invariant-loop-at : goal.invariant-loop-at
invariant-loop-at g l = record {
  within : l.at ≤ length l.bytes;
  printed : Printed g.O.Sink.shown l.fn.out l.out (take l.at l.bytes);
}

abbrev pub decreases-loop-at : goal.decreases-loop-at
decreases-loop-at g l = length l.bytes - l.at
