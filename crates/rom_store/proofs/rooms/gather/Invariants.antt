use Rattle.std.proofs.Common.{◌≡◌, ◌≤◌, ◌+◌, map, length, vec_len, vec_capacity}
use Rattle.rom_store.specs.Indexed.{Indexed, Both}
use Rattle.rom_store.specs.Callers.{IsNumberedCaller}
use Rattle.rom_store.specs.Working.{IsPast, HasDoneLines, script_of}
use Rattle.rom_store.proofs.rooms.gather.Given as goal

abbrev pub invariant-loop : goal.invariant-loop
invariant-loop g l = record {
  jobs_many : vec_len l.jobs + l.counter ≡ length l.scripts;
  passes_many : vec_len l.passes ≡ l.counter;
  results_many : vec_len l.results ≡ l.counter;
  jobs : Indexed (λ j job. IsPast g.O.Object.machine g.O.Object.Contents g.N.Label.base g.N.Label.table (map (λ v. v.items) l.scripts) j job.pass job.results.items) l.jobs.items;
  passes : Indexed (IsNumberedCaller g.O.Object.Contents g.N.Label.table g.N.Label.base) l.passes.items;
  done : Both (λ i pass told. HasDoneLines g.O.Object.machine g.O.Object.Contents g.N.Label.base pass (script_of (map (λ v. v.items) l.scripts) (i + 1)) told.items) l.passes.items l.results.items;
  passes_space : length l.scripts ≤ vec_capacity l.passes;
  results_space : length l.scripts ≤ vec_capacity l.results;
}
