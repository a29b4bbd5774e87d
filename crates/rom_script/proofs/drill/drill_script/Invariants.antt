use Rattle.std.proofs.Common.{◌≡◌, ◌+◌, ◌-◌, ◌*◌, ◌^◌, ◌<◌, ◌≤◌, ◌++◌, length}
use Rattle.rom_script.specs.Drill as numbered
use Rattle.rom_script.proofs.drill.drill_script.Given as goal

-- the lines so far, and then those of the items that are left
abbrev pub invariant-loop-made : goal.invariant-loop-made
invariant-loop-made l = record {
  number : l.x < 2 ^ 31;
  written : l.script.items ++ numbered.items l.callers l.caller (l.calls - l._made) l.x ≡ numbered.drill_script l.start l.callers l.calls l.caller;
  few : length l.script.items ≤ 4 + 2 * l._made;
}
