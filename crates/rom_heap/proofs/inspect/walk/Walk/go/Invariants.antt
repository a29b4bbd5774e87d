use Rattle.std.proofs.Common.{ℕ, ◌-◌, ◌^◌, List}
use Rattle.rom_heap.specs.Walks.{AreMarks, IsOnWalk}
use Rattle.rom_heap.proofs.inspect.walk.Walk.go.Given as goal

abbrev pub invariant-loop-reached : goal.invariant-loop-reached
invariant-loop-reached l = (seen : List ℕ) → AreMarks l.order seen l.fn.marks → (before : List ℕ) × IsOnWalk l.order l.region l.self seen before l.reached l.marks

abbrev pub decreases-loop-reached : goal.decreases-loop-reached
decreases-loop-reached l = 2 ^ l.order - l.reached.count
