use Rattle.std.proofs.Common.{◌≡◌}
use Rattle.rom_rows.proofs.ranges.add_all.Given as goal

abbrev pub invariant-loop-at : goal.invariant-loop-at
invariant-loop-at l = l.log.room ≡ 4
