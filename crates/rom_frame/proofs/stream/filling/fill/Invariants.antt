use Rattle.std.proofs.Common.{◌≡◌, ◌-◌, ◌≤◌, take, drop}
use Rattle.std.specs.Io.KnownBytes.{Consumes}
use Rattle.rom_frame.proofs.stream.filling.fill.Given as goal

-- each read so far has given a byte or more
abbrev pub invariant-loop-len : goal.invariant-loop-len
invariant-loop-len g l = record {
  from : l.fn.from ≤ l.len;
  to : l.len ≤ l.fn.to;
  front : take l.fn.from l.block ≡ take l.fn.from l.fn.block;
  read : Consumes (g.S.Source.shown.left l.fn.source) (g.S.Source.shown.left l.source) (drop l.fn.from (take l.len l.block));
  idle : g.S.Source.shown.idle l.source ≡ g.S.Source.shown.idle l.fn.source;
  faults : g.S.Source.shown.faults l.source ≡ g.S.Source.shown.faults l.fn.source;
}

abbrev pub decreases-loop-len : goal.decreases-loop-len
decreases-loop-len g l = l.fn.to - l.len
