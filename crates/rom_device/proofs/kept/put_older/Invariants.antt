use Rattle.std.proofs.Common.{reverse}
use Rattle.rom_device.specs.Older.{IsOver, stale}
use Rattle.rom_device.proofs.kept.put_older.Given as goal

-- each word so far is as it was, or the older one
abbrev pub invariant-loop-at : goal.invariant-loop-at
invariant-loop-at l = record {
  over : IsOver (stale l.older l.start (reverse l.made)) l.older l.fn.words l.words;
}
