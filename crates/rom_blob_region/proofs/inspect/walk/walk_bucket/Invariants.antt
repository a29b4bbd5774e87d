use Rattle.std.proofs.Common.{ℕ, ◌-◌, ◌^◌, List}
use Rattle.rom_blob_region.specs.Walks.{held, AreBlobMarks, IsOnBlobWalk}
use Rattle.rom_blob_region.proofs.inspect.walk.walk_bucket.Given as goal

abbrev pub invariant-loop-reached : goal.invariant-loop-reached
invariant-loop-reached l = (seen : List ℕ) → AreBlobMarks l.order (held l.order l.region seen) l.fn.marks → (before : List ℕ) × IsOnBlobWalk l.order l.region l.number seen before l.reached l.marks

abbrev pub decreases-loop-reached : goal.decreases-loop-reached
decreases-loop-reached l = 2 ^ l.order - l.reached.count
