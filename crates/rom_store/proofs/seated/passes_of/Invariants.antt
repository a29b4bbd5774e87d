use Rattle.std.proofs.Common.{◌≡◌, ◌≤◌, length, map, vec_capacity}
use Rattle.rom_store.specs.Callers.{caller_at}
use Rattle.rom_store.proofs.seated.passes_of.Given as goal

abbrev pub invariant-loop-seat : goal.invariant-loop-seat
invariant-loop-seat l = record {
  passes : l.passes.items ≡ map caller_at l.yielded;
  space : length l.fn.seats.items ≤ vec_capacity l.passes;
}
