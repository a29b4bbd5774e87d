use Rattle.std.proofs.Common.{◌≡◌, vec_capacity, length}
use Rattle.rom_store.specs.Indexed.{Indexed}
use Rattle.rom_caller.specs.Working.{IsFor}
use Rattle.rom_caller.proofs.rooms.deal.Given as goal

abbrev pub invariant-loop-pass : goal.invariant-loop-pass
invariant-loop-pass g l = record {
  many : length l.jobs.items ≡ length l.yielded;
  jobs : Indexed (λ i job. IsFor g.O.Object.Contents g.N.Label.table g.N.Label.base i job.pass) l.jobs.items;
  space : vec_capacity l.jobs ≡ vec_capacity l.fn.jobs;
}
