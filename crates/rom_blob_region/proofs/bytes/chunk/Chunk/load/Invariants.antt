use Rattle.std.proofs.Common.{◌≡◌, ◌+◌, ◌^◌, ◌<◌, ◌≤◌, ℕ, length, slice_index}
use Rattle.rom_model.specs.Space.{Looks}
use Rattle.rom_blob_region.proofs.bytes.chunk.Chunk.load.Given as goal

abbrev pub invariant-loop-i : goal.invariant-loop-i
invariant-loop-i g l = record {
  long : length l.words ≡ 32;
  small : (j : ℕ) → slice_index l.words j < 2 ^ 64;
  same : (j : ℕ) → j < l.i → slice_index l.words j ≡ slice_index (g.M.Look.shown.image l.fn.space) (l.at + j);
  behind : (j : ℕ) → l.i ≤ j → slice_index l.words j ≡ 0;
  looks : Looks g.M.Look.shown l.i l.fn.space l.space;
}
