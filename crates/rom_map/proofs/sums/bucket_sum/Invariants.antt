use Rattle.std.proofs.Common.{◌≡◌, ℕ, ◌+◌, ◌*◌, ◌^◌, List, length}
use Rattle.rom_model.specs.Space.{Looks}
use Rattle.rom_bucket.specs.Walk.{IsBucket}
use Rattle.rom_bucket.proofs.Walking.{left}
use Rattle.rom_map.specs.Sums.{counted_at}
use Rattle.rom_map.proofs.Totals.{Summed}
use Rattle.rom_map.proofs.sums.bucket_sum.Given as goal

-- each node that was passed took two loads
abbrev pub invariant-loop-node : goal.invariant-loop-node
invariant-loop-node g l = record {
  image : g.M.Look.shown.image l.space ≡ g.M.Look.shown.image l.fn.space;
  way : (blocks : List ℕ) → IsBucket l.order (g.M.Look.shown.image l.fn.space) l.number blocks
      → (x : Summed (counted_at l.measure l.order (g.M.Look.shown.image l.fn.space)) l.order l.number (g.M.Look.shown.image l.fn.space) blocks l.total l.node) × Looks g.M.Look.shown (1 + 2 * length x.way.front) l.fn.space l.space;
}

-- the nodes that are left
abbrev pub decreases-loop-node : goal.decreases-loop-node
decreases-loop-node g l = left (g.M.Look.shown.image l.fn.space) (2 ^ l.order) l.node
