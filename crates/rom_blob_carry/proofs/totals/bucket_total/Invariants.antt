use Rattle.std.proofs.Common.{◌≡◌, ℕ, ◌*◌, ◌^◌, ◌≤◌, List, length}
use Rattle.std.specs.List.{sum_by}
use Rattle.rom_bucket.specs.Walk.{IsBucket, head_of}
use Rattle.rom_bucket.proofs.Walking.{Along, left}
use Rattle.rom_blob_carry.specs.Sizes.{counted_at}
use Rattle.rom_blob_carry.proofs.totals.bucket_total.Given as goal

-- the sum over the nodes that were passed
abbrev pub invariant-loop-node : goal.invariant-loop-node
invariant-loop-node l = (blocks : List ℕ) → IsBucket l.order l.words l.number blocks
    → (x : Along l.order (head_of l.order l.number) l.words blocks l.node) × (l.total ≡ sum_by (counted_at l.measure l.order l.words) x.front) × (l.total ≤ length x.front * 2 ^ 64)

-- the nodes that are left
abbrev pub decreases-loop-node : goal.decreases-loop-node
decreases-loop-node l = left l.words (2 ^ l.order) l.node
