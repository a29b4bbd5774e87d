use Rattle.std.proofs.Common.{◌≡◌, vec_capacity, length}
use Rattle.rom_store.specs.Callers.{IsNumberedCaller}
use Rattle.rom_store.specs.Closing.{kept_in}
use Rattle.rom_store.specs.Indexed.{Both, Indexed}
use Rattle.rom_caller.proofs.rooms.gather.Given as goal

abbrev pub invariant-loop-job : goal.invariant-loop-job
invariant-loop-job g l = record {
  passes_many : length l.passes.items ≡ length l.yielded;
  results_many : length l.results.items ≡ length l.yielded;
  passes : Indexed (IsNumberedCaller g.O.Object.Contents g.N.Label.table g.N.Label.base) l.passes.items;
  did : Both (λ i p out. g.W.Work.Did l.work g.N.Label.base i (kept_in p) out) l.passes.items l.results.items;
  passes_space : vec_capacity l.passes ≡ vec_capacity l.fn.passes;
  results_space : vec_capacity l.results ≡ vec_capacity l.fn.results;
}
