use Rattle.std.proofs.Common.{◌≡◌, ◌+◌, ◌*◌, ◌≤◌, length}
use Rattle.rom_units.proofs.told.results_of.Given as goal

-- there is room for the results that are left
abbrev pub invariant-loop-line : goal.invariant-loop-line
invariant-loop-line l = record {
  lines : length l.told ≤ l.results.lines + l.line-index;
  words : 20 * length l.told ≤ l.results.words + 20 * l.line-index;
  many : length l.results.items ≡ l.line-index;
}
