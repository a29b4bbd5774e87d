use Rattle.std.proofs.Common.{ℕ, take}
use Rattle.rom_model.specs.State.{State}
use Rattle.rom_model.specs.Region.{Contents}
use Rattle.rom_heap.specs.Fits.{LeavesRoom, OnlyLooks}
use Rattle.rom_heap.proofs.fits.fits.Given as goal

-- none of the updates so far is refused, and this is the room that they leave
abbrev pub invariant-loop-i : goal.invariant-loop-i
invariant-loop-i g l = record {
  looks : OnlyLooks g.M.Look.shown l.fn.space l.space;
  room : (s : State) (j k : ℕ) → Contents l.order (g.M.Look.shown.image l.fn.space) s k → LeavesRoom l.order s j (take l.i l.calls) l.room;
}
