use Rattle.std.proofs.Common.{ℕ, ◌≤◌, Bool}
use Rattle.rom_block.specs.Levels.{IsMarked}
use Rattle.rom_block.specs.Walk.{NoneAbove}
use Rattle.rom_blob_region.proofs.inspect.follow.is_marked_above.Given as goal

-- none above the one is the same as none above the other
abbrev pub invariant-loop-above : goal.invariant-loop-above
invariant-loop-above l = (l.above ≤ l.node) × ((taken : ℕ → Bool) → IsMarked taken l.marks → (NoneAbove taken l.above → NoneAbove taken l.node) × (NoneAbove taken l.node → NoneAbove taken l.above))

abbrev pub decreases-loop-above : goal.decreases-loop-above
decreases-loop-above l = l.above
