use Rattle.std.proofs.Common.{◌≡◌, ◌+◌, ◌-◌, ◌≤◌, vec_len}
use Rattle.std.specs.Io.KnownBytes.{Consumes}
use Rattle.rom_text.specs.declared.read.TheConstants.{MAX_BYTES}
use Rattle.rom_text.proofs.read.read_bytes.Given as goal

-- each read so far has given a byte or more
abbrev pub invariant-loop-block : goal.invariant-loop-block
invariant-loop-block g l = record {
  within : vec_len l.bytes ≤ MAX_BYTES + 1;
  read : Consumes (g.S.Source.shown.left l.fn.source) (g.S.Source.shown.left l.source) l.bytes.items;
  idle : g.S.Source.shown.idle l.source ≡ g.S.Source.shown.idle l.fn.source;
  faults : g.S.Source.shown.faults l.source ≡ g.S.Source.shown.faults l.fn.source;
}

abbrev pub decreases-loop-block : goal.decreases-loop-block
decreases-loop-block g l = MAX_BYTES + 1 - vec_len l.bytes
