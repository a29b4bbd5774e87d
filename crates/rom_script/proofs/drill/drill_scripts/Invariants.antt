use Rattle.std.proofs.Common.{◌≡◌, ◌+◌, ◌*◌, ◌≤◌, All, length, map}
use Rattle.std.specs.List.{range_with_len}
use Rattle.rom_script.specs.Drill.{drill_script}
use Rattle.rom_script.proofs.drill.drill_scripts.Given as goal

-- the scripts of the callers so far
abbrev pub invariant-loop-before : goal.invariant-loop-before
invariant-loop-before l = record {
  lines : map (λ v. v.items) l.scripts.items ≡ map (drill_script l.start l.callers l.calls) (range_with_len 1 l.before);
  many : length l.scripts.items ≡ l.before;
  few : All (λ v. length v.items ≤ 4 + 2 * l.calls) l.scripts.items;
}
