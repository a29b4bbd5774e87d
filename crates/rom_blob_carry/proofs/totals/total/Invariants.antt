use Rattle.std.proofs.Common.{ℕ, List}
use Rattle.rom_blob_region.specs.State.{BlobState}
use Rattle.rom_blob_region.specs.Region.{IsBlobs}
use Rattle.rom_blob_carry.specs.Sizes.{counted_at}
use Rattle.rom_blob_carry.proofs.Walks.{SummedTo}
use Rattle.rom_blob_carry.proofs.totals.total.Given as goal

abbrev pub invariant-loop-number : goal.invariant-loop-number
invariant-loop-number l = (bucket : ℕ → List ℕ) (s : BlobState) (k : ℕ) → IsBlobs l.order l.words bucket s k → SummedTo (counted_at l.measure l.order l.words) l.number bucket l.total
