use Rattle.std.proofs.Common.{arith, ap, subst, length, map, ◌≡◌, ◌+◌}
use Rattle.std.proofs.lemmas.List.{length-map}
use Rattle.rom_store.specs.Indexed.{Indexed}
use Rattle.rom_store.specs.Working.{IsPast}
use Rattle.rom_store.proofs.Places.{none_at, none_both, pop_at, last_at, push_at, push_both}
use Rattle.rom_store.proofs.Dealing.{past_number, past_done}
use Rattle.rom_store.proofs.rooms.gather.Goals as goal

pub loop-init : goal.loop-init
loop-init g c = record {
  jobs_many = omega (arith, c.requires.many);
  passes_many = omega (arith, ap length c.requires.passes.0, c.args.passes.now.ok);
  results_many = omega (arith, ap length c.requires.results.0, c.args.results.now.ok);
  jobs = c.requires.jobs;
  passes = none_at _ _ c.requires.passes.0;
  done = none_both _ _ _ c.requires.passes.0;
  passes_space = c.requires.passes.1;
  results_space = c.requires.results.1;
}

pub loop-preserved : goal.loop-preserved
loop-preserved g c =
    let b = c.loop.invariant in
    let scripts = map (λ v. v.items) c.args.scripts.now in
    let js = c.take_last-pass.new.self.items in
    let jobs = subst (Indexed (λ j job. IsPast g.O.Object.machine g.O.Object.Contents g.N.Label.base g.N.Label.table scripts j job.pass job.results.items)) c.take_last-pass.ensures.items b.jobs in
    let past = last_at _ js c.take_last-pass.result jobs in
    let i = length c.loop.passes.items in
    let left : length js + i + 1 ≡ length scripts = omega (arith, c.take_last-pass.ensures.len, b.jobs_many, b.passes_many, c.take_last-pass.new.self.ok, c.loop.passes.ok, length-map c.args.scripts.now (λ v. v.items)) in
    let same : i ≡ length c.loop.results.items = omega (arith, b.passes_many, b.results_many, c.loop.passes.ok, c.loop.results.ok) in
    record {
      jobs_many = omega (arith, c.take_last-pass.ensures.len, b.jobs_many);
      passes_many = omega (arith, c.push_reserved.ensures.len, b.passes_many);
      results_many = omega (arith, c.push_reserved-in-loop.ensures.len, b.results_many);
      jobs = pop_at _ js c.take_last-pass.result jobs;
      passes = rw c.push_reserved.ensures.items (push_at _ c.loop.passes.items _ b.passes (past_number g.O.Object.Contents g.N.Label.table g.N.Label.base g.O.Object.machine scripts i (length js) _ _ past left));
      done = rw (c.push_reserved.ensures.items, c.push_reserved-in-loop.ensures.items) (push_both _ c.loop.passes.items c.loop.results.items _ _ same b.done (past_done g.O.Object.Contents g.N.Label.table g.N.Label.base g.O.Object.machine scripts i (length js) _ _ past left));
      passes_space = omega (arith, c.push_reserved.ensures.capacity, b.passes_space);
      results_space = omega (arith, c.push_reserved-in-loop.ensures.capacity, b.results_space);
    }
