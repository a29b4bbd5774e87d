use Rattle.std.proofs.Common.{◌≡◌, ◌-◌, ◌*◌, ◌^◌, ◌≤◌, length, map, take}
use Rattle.std.specs.List.{sum_by, zip}
use Rattle.rom_script.specs.Drill.{enqueued_of}
use Rattle.rom_script.proofs.summary.sum_enqueued.Given as goal

-- the sum of the callers so far
abbrev pub invariant-loop-script : goal.invariant-loop-script
invariant-loop-script l = record {
  sum : l.sum ≡ sum_by (λ p. enqueued_of p.0 p.1) (take (length l.yielded) (zip (map (λ v. v.items) l.scripts) (map (λ v. v.items) l.results)));
  within : l.sum ≤ length l.yielded * (2 ^ 32 * (2 ^ 64 - 1));
}
