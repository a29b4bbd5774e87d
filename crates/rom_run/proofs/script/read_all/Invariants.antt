use Rattle.std.proofs.Common.{◌≡◌, ◌≤◌, All, length, map, vec_capacity}
use Rattle.rom_model.specs.History.{LAST_COUNT}
use Rattle.rom_run.proofs.Sources.{AreReadUpTo}
use Rattle.rom_run.proofs.script.read_all.Given as goal

-- the sources so far are read to their ends, and there is room for the others' lines
abbrev pub invariant-loop-i : goal.invariant-loop-i
invariant-loop-i g l = record {
  read : AreReadUpTo g.L.Lines.Reads g.S.Source.shown l.i l.fn.sources l.sources (map (λ v. v.items) l.scripts.items);
  few : All (λ v. length v.items ≤ LAST_COUNT) l.scripts.items;
  many : length l.scripts.items ≡ l.i;
  room : length l.fn.sources ≤ vec_capacity l.scripts;
}
