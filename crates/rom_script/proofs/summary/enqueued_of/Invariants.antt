use Rattle.std.proofs.Common.{◌≡◌, ◌-◌, ◌*◌, ◌^◌, ◌≤◌, take}
use Rattle.std.specs.List.{sum_by, zip}
use Rattle.rom_script.specs.Drill.{enqueued_by}
use Rattle.rom_script.proofs.summary.enqueued_of.Given as goal

-- the sum of the lines so far
abbrev pub invariant-loop-i : goal.invariant-loop-i
invariant-loop-i l = record {
  sum : l.sum ≡ sum_by (λ p. enqueued_by p.0 p.1) (take l.i (zip l.script.items l.results.items));
  within : l.sum ≤ l.i * (2 ^ 64 - 1);
}
