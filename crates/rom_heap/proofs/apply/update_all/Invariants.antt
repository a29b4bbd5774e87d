use Rattle.std.proofs.Common.{◌≡◌, take, length}
use Rattle.rom_heap.specs.Updates.{DoesUpdates}
use Rattle.rom_heap.proofs.apply.update_all.Given as goal

-- the members so far are done
abbrev pub invariant-loop-call : goal.invariant-loop-call
invariant-loop-call g l = record {
  does : DoesUpdates g.M.Look.shown l.order (take l.call-index l.calls) l.replies l.fn.space l.space;
  many : length l.replies ≡ l.call-index;
}
