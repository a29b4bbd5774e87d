use Rattle.std.proofs.Common.{◌≡◌, ◌+◌, ◌<◌, ℕ, slice_index}
use Rattle.rom_model.specs.Space.{Costs, ChangesOnly}
use Rattle.rom_blob_region.proofs.bytes.chunk.Chunk.store.Given as goal

abbrev pub invariant-loop-i : goal.invariant-loop-i
invariant-loop-i g l = record {
  stored : (j : ℕ) → j < l.i → slice_index (g.M.Look.shown.image l.space) (l.at + j) ≡ slice_index l.self-inside.words j;
  others : ChangesOnly l.at l.i (g.M.Look.shown.image l.fn.space) (g.M.Look.shown.image l.space);
  costs : Costs g.M.Look.shown l.i l.i l.fn.space l.space;
}
