use Rattle.std.proofs.Common.{◌≡◌, ◌≤◌, map, take}
use Rattle.rom_replica.specs.Turns.{applied}
use Rattle.rom_tail.specs.Batches.{many_next, reply_in}
use Rattle.rom_tail.proofs.batch.compare.Given as goal

abbrev pub invariant-loop-i : goal.invariant-loop-i
invariant-loop-i l = let so_far = take l.i l.frames in record {
  same : l.same ≡ many_next l.count so_far;
  reached : l.same ≤ l.done;
  few : l.same ≤ l.i;
  told : map reply_in (applied l.count so_far) ≡ take l.same l.replies;
}
