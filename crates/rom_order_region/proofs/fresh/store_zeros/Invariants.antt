use Rattle.std.proofs.Common.{◌≡◌, ℕ, ◌-◌, ◌<◌, ◌≤◌, slice_index}
use Rattle.rom_model.specs.Space.{Costs, ChangesOnly}
use Rattle.rom_order_region.proofs.fresh.store_zeros.Given as goal

abbrev pub invariant-loop-offset : goal.invariant-loop-offset
invariant-loop-offset g l =
    ((k : ℕ) → l.from ≤ k → k < l.offset → slice_index (g.M.Look.shown.image l.space) k ≡ 0)
    × ChangesOnly l.from l.len (g.M.Look.shown.image l.fn.space) (g.M.Look.shown.image l.space)
    × Costs g.M.Look.shown 0 (l.offset - l.from) l.fn.space l.space
