use Rattle.std.proofs.Common.{◌≡◌, ℕ, length}
use Rattle.rom_model.specs.VecSpace.{words_of_space}
use Rattle.rom_model.specs.State.{State}
use Rattle.rom_model.specs.Region.{Chains, IsOldRegion}
use Rattle.rom_heap.proofs.Renewing.{Renewing}
use Rattle.rom_heap.proofs.renew.region.renew_region.Given as goal

abbrev pub invariant-loop-bucket : goal.invariant-loop-bucket
invariant-loop-bucket l = record {
  so_far : (p : Chains) (s : State) (k : ℕ) → IsOldRegion l.order (words_of_space l.fn.space) p s k → Renewing l.order l.bucket p (words_of_space l.fn.space) (words_of_space l.space);
  long : length (words_of_space l.space) ≡ length (words_of_space l.fn.space);
}
