use Rattle.std.proofs.Common.{◌≡◌, ◌≤◌, ◌+◌, map, length, vec_len, vec_capacity}
use Rattle.rom_store.specs.Callers.{IsNewCaller}
use Rattle.rom_store.specs.Indexed.{Indexed}
use Rattle.rom_store.specs.Working.{HasReservedRoom, IsNext}
use Rattle.rom_store.proofs.rooms.deal.Given as goal

abbrev pub invariant-loop : goal.invariant-loop
invariant-loop g l = record {
  passes_many : vec_len l.passes + l.counter ≡ length l.scripts;
  rooms_many : vec_len l.rooms + l.counter ≡ length l.scripts;
  jobs_many : vec_len l.jobs ≡ l.counter;
  fresh : Indexed (IsNewCaller g.O.Object.Contents g.N.Label.table g.N.Label.base) l.passes.items;
  rooms : Indexed (HasReservedRoom g.O.Object.machine.call_words (map (λ v. v.items) l.scripts)) l.rooms.items;
  jobs : Indexed (λ j job. IsNext g.O.Object.Contents g.O.Object.machine.call_words g.N.Label.table g.N.Label.base (map (λ v. v.items) l.scripts) j job.pass job.results) l.jobs.items;
  space : length l.scripts ≤ vec_capacity l.jobs;
  passes_space : vec_capacity l.passes ≡ vec_capacity l.fn.passes;
  rooms_space : vec_capacity l.rooms ≡ vec_capacity l.fn.rooms;
}
