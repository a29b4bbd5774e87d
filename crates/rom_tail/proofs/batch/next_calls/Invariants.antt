use Rattle.std.proofs.Common.{◌≡◌, ◌+◌, ◌≤◌, IsSome, map, take}
use Rattle.std.specs.List.{AllByRecursion}
use Rattle.rom_model.specs.Codes.{words_call}
use Rattle.rom_replica.specs.Turns.{applied}
use Rattle.rom_tail.specs.Batches.{call_in, many_next}
use Rattle.rom_tail.proofs.batch.next_calls.Given as goal

abbrev pub invariant-loop-frame : goal.invariant-loop-frame
invariant-loop-frame l = let so_far = take l.frame-index l.frames in record {
  calls : l.calls.items ≡ map call_in (applied l.count so_far);
  known : AllByRecursion (λ words. IsSome (words_call words)) l.calls.items;
  next : l.next ≡ l.count + many_next l.count so_far;
  few : many_next l.count so_far ≤ l.frame-index;
}
