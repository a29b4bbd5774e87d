use Rattle.std.proofs.Common.{◌≡◌, ℕ, ◌+◌, ◌*◌, length}
use Rattle.rom_model.specs.Space.{Looks}
use Rattle.rom_model.specs.State.{State}
use Rattle.rom_model.specs.Region.{Chains, all_of, IsRegion}
use Rattle.rom_map.specs.Sums.{counted_at}
use Rattle.rom_map.proofs.Totals.{SummedTo}
use Rattle.rom_map.proofs.sums.map_sum.Given as goal

abbrev pub invariant-loop-number : goal.invariant-loop-number
invariant-loop-number g l = record {
  image : g.M.Look.shown.image l.space ≡ g.M.Look.shown.image l.fn.space;
  far : (p : Chains) (s : State) (k : ℕ) → IsRegion l.order (g.M.Look.shown.image l.fn.space) p s k
      → SummedTo (counted_at l.measure l.order (g.M.Look.shown.image l.fn.space)) l.number p.bucket l.total × Looks g.M.Look.shown (l.number + 2 * length (all_of p.bucket l.number)) l.fn.space l.space;
}
