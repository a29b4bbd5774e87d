use Rattle.std.proofs.Common.{◌≡◌, ℕ, List, length}
use Rattle.std.specs.Prelude.{Ok}
use Rattle.rom_blob_region.specs.Walks.{held, AreBlobMarks}
use Rattle.rom_blob_region.specs.Parts.{BucketByBucket}
use Rattle.rom_blob_region.proofs.inspect.inspection.inspect_buckets.Given as goal

-- the chains of the first buckets were walked
abbrev pub invariant-loop-number : goal.invariant-loop-number
invariant-loop-number l = (units : List ℕ) × BucketByBucket l.order l.region l.number (Ok units) × (l.count ≡ length units) × AreBlobMarks l.order (held l.order l.region units) l.marks
