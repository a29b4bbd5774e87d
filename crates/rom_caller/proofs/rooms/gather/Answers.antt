use Rattle.std.proofs.Common.{◌∙◌, ◌≡◌, ◌+◌, ◌++◌, ℕ, [], ◌∷◌, arith, length, refl, subst, sym}
use Rattle.std.specs.Prelude.{IsSome}
use Rattle.std.proofs.lemmas.Iterator.Adapters.{YieldsList-from_vec}
use Rattle.std.proofs.lemmas.Iterator.Consumers.{YieldsList-turn}
use Rattle.std.proofs.lemmas.List.{length-append}
use Rattle.rom_store.proofs.Ending.{at_turn}
use Rattle.rom_store.proofs.Places.{push_at, push_both}
use Rattle.rom_caller.specs.Working.{HasDone}
use Rattle.rom_caller.proofs.Gathering.{done_at}
use Rattle.rom_caller.proofs.rooms.gather.Goals as goal

pub unwrap-requires : goal.unwrap-requires
unwrap-requires g c =
    let gives = c.into_iter-job-iterator.ensures.into_iter_gives in
    let all = YieldsList-from_vec {s = c.into_iter-job-iterator.result} c.args.jobs.items gives.0 (gives.1 ∙ c.args.jobs.ok.0) in
    let turn = YieldsList-turn all c.loop-job.yielded c.loop-job.job-iterator c.loop-job.yielded_by c.next.result c.next.new.self c.in-Some.job c.in-Some.is c.next.ensures.steps in
    let next : HasDone g.O.Object.Contents g.N.Label.table g.N.Label.base (g.W.Work.Did c.args.work.now) (length c.loop-job.yielded) c.in-Some.job.pass c.in-Some.job.out = at_turn (λ i job. HasDone g.O.Object.Contents g.N.Label.table g.N.Label.base (g.W.Work.Did c.args.work.now) i job.pass job.out) c.args.jobs.items (length c.loop-job.yielded) c.in-Some.job c.requires.jobs turn in
    subst IsSome (sym next.pass_is) refl

pub unwrap-requires-in-loop-job : goal.unwrap-requires-in-loop-job
unwrap-requires-in-loop-job g c =
    let gives = c.into_iter-job-iterator.ensures.into_iter_gives in
    let all = YieldsList-from_vec {s = c.into_iter-job-iterator.result} c.args.jobs.items gives.0 (gives.1 ∙ c.args.jobs.ok.0) in
    let turn = YieldsList-turn all c.loop-job.yielded c.loop-job.job-iterator c.loop-job.yielded_by c.next.result c.next.new.self c.in-Some.job c.in-Some.is c.next.ensures.steps in
    let next : HasDone g.O.Object.Contents g.N.Label.table g.N.Label.base (g.W.Work.Did c.args.work.now) (length c.loop-job.yielded) c.in-Some.job.pass c.in-Some.job.out = at_turn (λ i job. HasDone g.O.Object.Contents g.N.Label.table g.N.Label.base (g.W.Work.Did c.args.work.now) i job.pass job.out) c.args.jobs.items (length c.loop-job.yielded) c.in-Some.job c.requires.jobs turn in
    subst IsSome (sym next.out_is) refl

pub loop-job-preserved : goal.loop-job-preserved
loop-job-preserved g c =
    let gives = c.into_iter-job-iterator.ensures.into_iter_gives in
    let all = YieldsList-from_vec {s = c.into_iter-job-iterator.result} c.args.jobs.items gives.0 (gives.1 ∙ c.args.jobs.ok.0) in
    let turn = YieldsList-turn all c.loop-job.yielded c.loop-job.job-iterator c.loop-job.yielded_by c.next.result c.next.new.self c.in-Some.job c.in-Some.is c.next.ensures.steps in
    let next : HasDone g.O.Object.Contents g.N.Label.table g.N.Label.base (g.W.Work.Did c.args.work.now) (length c.loop-job.yielded) c.in-Some.job.pass c.in-Some.job.out = at_turn (λ i job. HasDone g.O.Object.Contents g.N.Label.table g.N.Label.base (g.W.Work.Did c.args.work.now) i job.pass job.out) c.args.jobs.items (length c.loop-job.yielded) c.in-Some.job c.requires.jobs turn in
    let b = c.loop-job.invariant in
    let i = length c.loop-job.yielded in
    let Contents = g.O.Object.Contents in let table = g.N.Label.table in let base = g.N.Label.base in let Did = g.W.Work.Did c.args.work.now in
    let done = done_at Contents table base Did (length c.loop-job.passes.items) _ _ c.unwrap.result c.unwrap-in-loop-job.result c.unwrap.ensures c.unwrap-in-loop-job.ensures (subst (λ (n : ℕ). HasDone Contents table base Did n c.in-Some.job.pass c.in-Some.job.out) (sym b.passes_many) next) in
    let longer : length (c.loop-job.yielded ++ c.in-Some.job ∷ []) ≡ i + 1 = length-append c.loop-job.yielded (c.in-Some.job ∷ []) in
    record {
      passes_many = omega (arith, c.push_reserved.ensures.len, c.push_reserved.new.self.ok, c.loop-job.passes.ok, b.passes_many, longer);
      results_many = omega (arith, c.push_reserved-in-loop-job.ensures.len, c.push_reserved-in-loop-job.new.self.ok, c.loop-job.results.ok, b.results_many, longer);
      passes = rw c.push_reserved.ensures.items (push_at _ c.loop-job.passes.items _ b.passes done.0);
      did = rw (c.push_reserved.ensures.items, c.push_reserved-in-loop-job.ensures.items) (push_both _ c.loop-job.passes.items c.loop-job.results.items _ _ (b.passes_many ∙ sym b.results_many) b.did done.1);
      passes_space = c.push_reserved.ensures.capacity ∙ b.passes_space;
      results_space = c.push_reserved-in-loop-job.ensures.capacity ∙ b.results_space;
    }
