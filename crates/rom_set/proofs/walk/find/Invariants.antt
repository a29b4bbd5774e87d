use Rattle.std.proofs.Common.{◌≡◌, ℕ, ◌+◌, ◌-◌, ◌*◌, List, length, slice_index}
use Rattle.std.specs.Prelude.{◌==◌, if◌then◌else◌}
use Rattle.std.specs.Ordering.{nat_cmp}
use Rattle.std.specs.FinSet as set
use Rattle.rom_model.specs.Space.{Looks}
use Rattle.rom_model.specs.Region.{IsSet}
use Rattle.rom_set.specs.Walk.{HasWalkedSet}
use Rattle.rom_set.proofs.walk.find.Given as goal

-- each node that was passed took two loads
abbrev pub invariant-loop-node : goal.invariant-loop-node
invariant-loop-node g l = record {
  image : g.M.Look.shown.image l.space ≡ g.M.Look.shown.image l.fn.space;
  way : (blocks : List ℕ) (members : set.FinSet nat_cmp) → IsSet l.order (g.M.Look.shown.image l.fn.space) blocks members
      → (x : HasWalkedSet l.order (g.M.Look.shown.image l.fn.space) blocks l.key l.link l.node) × Looks g.M.Look.shown (1 + 2 * length x.front) l.fn.space l.space;
}

-- the keys rise up to this one
abbrev pub decreases-loop-node : goal.decreases-loop-node
decreases-loop-node g l = if l.node == 0 then 0 else l.key - slice_index (g.M.Look.shown.image l.fn.space) l.node
