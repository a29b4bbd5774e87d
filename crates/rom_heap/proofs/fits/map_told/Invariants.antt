use Rattle.std.proofs.Common.{◌≡◌, drop, None}
use Rattle.rom_heap.specs.Fits as plan
use Rattle.rom_heap.proofs.fits.map_told.Given as goal

-- what is told so far and by those that are left is what all tell
abbrev pub invariant-loop-call : goal.invariant-loop-call
invariant-loop-call l = plan.told_by (plan.map_tells l.key) l.told (drop l.call-index l.calls) ≡ plan.told_by (plan.map_tells l.key) None l.calls
