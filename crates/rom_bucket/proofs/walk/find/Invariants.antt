use Rattle.std.proofs.Common.{◌≡◌, ◌+◌, ◌*◌, ◌^◌, List, ℕ, length}
use Rattle.rom_model.specs.Space.{Looks}
use Rattle.rom_model.specs.Region.{bucket_of}
use Rattle.rom_bucket.specs.Walk.{HasWalkedBucket, IsBucket}
use Rattle.rom_bucket.proofs.Walking.{left}
use Rattle.rom_bucket.proofs.walk.find.Given as goal

-- each node that was passed took two loads
abbrev pub invariant-loop-node : goal.invariant-loop-node
invariant-loop-node g l = record {
  image : g.M.Look.shown.image l.space ≡ g.M.Look.shown.image l.fn.space;
  way : (blocks : List ℕ) → IsBucket l.order (g.M.Look.shown.image l.fn.space) (bucket_of l.order l.key) blocks
      → (x : HasWalkedBucket l.order (g.M.Look.shown.image l.fn.space) blocks l.key l.link l.node) × Looks g.M.Look.shown (1 + 2 * length x.front) l.fn.space l.space;
}

-- the nodes that are left
abbrev pub decreases-loop-node : goal.decreases-loop-node
decreases-loop-node g l = left (g.M.Look.shown.image l.fn.space) (2 ^ l.order) l.node
