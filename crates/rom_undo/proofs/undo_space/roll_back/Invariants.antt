use Rattle.std.proofs.Common.{◌≡◌, ◌-◌, length, drop}
use Rattle.rom_model.specs.Space.{Stores}
use Rattle.rom_undo.specs.RolledBack.{rolled_back}
use Rattle.rom_undo.proofs.undo_space.roll_back.Given as goal

-- so many words are put back, from the last on
abbrev pub invariant-loop-i : goal.invariant-loop-i
invariant-loop-i g l = record {
  image : g.M.Look.shown.image l.space ≡ rolled_back (drop (length l.fn.words - l.i) l.fn.words) (g.M.Look.shown.image l.fn.space);
  stores : Stores g.M.Look.shown l.i l.fn.space l.space;
}
