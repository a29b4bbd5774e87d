use Rattle.std.proofs.Common.{◌≡◌, ◌<◌, ℕ, slice_index}
use Rattle.rom_steady.proofs.region.is_piece.Given as goal

-- the same so far
abbrev pub invariant-loop-index : goal.invariant-loop-index
invariant-loop-index g l = (k : ℕ) → k < l.index → slice_index l.read k ≡ slice_index l.expected k
