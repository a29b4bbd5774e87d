use Rattle.std.proofs.Common.{◌≡◌, ◌-◌, length}
use Rattle.rom_replica.specs.Merging.{frames_left}
use Rattle.rom_replica.proofs.ship.caller.Caller.from.Given as goal

-- no line before was an update that was done
abbrev pub invariant-loop-at : goal.invariant-loop-at
invariant-loop-at l = record {
  same : frames_left l.at l.script.items l.results.items ≡ frames_left l.start l.script.items l.results.items;
}

abbrev pub decreases-loop-at : goal.decreases-loop-at
decreases-loop-at l = length l.script.items - l.at
