use Rattle.std.proofs.Common.{◌≡◌, ℕ, Result, Ok, Err, IfErr, subst, sym}
use Rattle.std.specs.Result.{IsErrAnd}
use Rattle.rom_copy.specs.Putting.{HasTooFewFor}
use Rattle.rom_header.specs.declared.fresh.FormatRefused.{FormatRefused}
use Rattle.rom_header.specs.declared.fresh.FormatRefused.TheVariants.{Device}
use Rattle.rom_header.proofs.Since.{leaves_from}
use Rattle.rom_copy.proofs.put.put_whole.Goals as goal

pub returns-in_err-write_whole-clause-images : goal.returns-in_err-write_whole-clause-images
returns-in_err-write_whole-clause-images g c told =
    leaves_from g.D.Device.shown _ _ _ _ _ (λ t i le left. g.met.D.Device.counts_now c.args.device.now t i told le left) (c.is_heap.ensures.does.images told) (λ i is. is) (c.write_whole.ensures.images told)

pub returns-clause-images : goal.returns-clause-images
returns-clause-images g c told =
    leaves_from g.D.Device.shown _ _ _ _ _ (λ t i le left. g.met.D.Device.counts_now c.args.device.now t i told le left) (c.is_heap.ensures.does.images told) (λ i is. is) (c.write_whole.ensures.images told)

-- a device that failed is not told to have too few words
failed_sizes : (r : Result (Unit {0}) FormatRefused) (count size : ℕ) → IsErrAnd r (λ e. e ≡ Device) → IfErr r (HasTooFewFor count size)
failed_sizes (Ok done) count size is = tt
failed_sizes (Err refused) count size is = subst (HasTooFewFor count size) (sym is) tt

pub returns-in_err-is_heap-clause-sizes : goal.returns-in_err-is_heap-clause-sizes
returns-in_err-is_heap-clause-sizes g c = failed_sizes c.from_residual.result _ _ c.from_residual.ensures.1

pub returns-then-branch-clause-sizes : goal.returns-then-branch-clause-sizes
returns-then-branch-clause-sizes g c = tt

pub returns-in_err-write_whole-clause-sizes : goal.returns-in_err-write_whole-clause-sizes
returns-in_err-write_whole-clause-sizes g c = failed_sizes c.from_residual-in_err-write_whole.result _ _ c.from_residual-in_err-write_whole.ensures.1

pub returns-clause-sizes : goal.returns-clause-sizes
returns-clause-sizes g c = tt
