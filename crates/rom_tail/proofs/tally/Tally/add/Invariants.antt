use Rattle.std.proofs.Common.{◌≡◌, ◌+◌, ◌≤◌, take}
use Rattle.rom_tail.specs.Batches.{many_next}
use Rattle.rom_tail.specs.Tallied.{CountsFrames}
use Rattle.rom_tail.proofs.tally.Tally.add.Given as goal

abbrev pub invariant-loop-frame : goal.invariant-loop-frame
invariant-loop-frame l = let so_far = take l.frame-index l.frames in record {
  counts : CountsFrames l.count so_far l.fn.self l.self;
  next : l.next ≡ l.count + many_next l.count so_far;
  few : many_next l.count so_far ≤ l.frame-index;
}
