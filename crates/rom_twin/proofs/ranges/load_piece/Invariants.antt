use Rattle.std.proofs.Common.{◌≡◌, ◌+◌, ◌<◌, ℕ, length, slice_index}
use Rattle.rom_model.specs.Space.{Looks}
use Rattle.rom_twin.proofs.ranges.load_piece.Given as goal

-- the words so far are loaded
abbrev pub invariant-loop-index : goal.invariant-loop-index
invariant-loop-index g l = record {
  len : length l.piece ≡ length l.fn.piece;
  loaded : (k : ℕ) → k < l.index → slice_index l.piece k ≡ slice_index (g.M.Look.shown.image l.fn.image) (l.from + k);
  looks : Looks g.M.Look.shown l.index l.fn.image l.image;
}
