use Rattle.std.proofs.Common.{◌≡◌, ◌-◌, ◌*◌, ◌^◌, ◌≤◌, take}
use Rattle.std.specs.List.{sum_by}
use Rattle.rom_script.specs.Drill.{dequeued_by}
use Rattle.rom_script.proofs.summary.dequeued_of.Given as goal

-- the sum of the results so far
abbrev pub invariant-loop-i : goal.invariant-loop-i
invariant-loop-i l = record {
  sum : l.sum ≡ sum_by dequeued_by (take l.i l.results.items);
  within : l.sum ≤ l.i * (2 ^ 64 - 1);
}
