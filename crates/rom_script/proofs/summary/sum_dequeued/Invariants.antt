use Rattle.std.proofs.Common.{◌≡◌, ◌-◌, ◌*◌, ◌^◌, ◌≤◌, map, take}
use Rattle.std.specs.List.{sum_by}
use Rattle.rom_script.specs.Drill.{dequeued_of}
use Rattle.rom_script.proofs.summary.sum_dequeued.Given as goal

-- the sum of the callers so far
abbrev pub invariant-loop-own : goal.invariant-loop-own
invariant-loop-own l = record {
  sum : l.sum ≡ sum_by dequeued_of (take l.own-index (map (λ v. v.items) l.results));
  within : l.sum ≤ l.own-index * (2 ^ 32 * (2 ^ 64 - 1));
}
