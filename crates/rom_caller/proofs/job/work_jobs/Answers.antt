use Rattle.std.proofs.Common.{subst, sym, length, arith, ap}
use Rattle.std.specs.Prelude.{All}
use Rattle.rom_store.specs.Indexed.{Indexed}
use Rattle.rom_store.proofs.Places.{all_of, written_back}
use Rattle.rom_caller.specs.Working.{IsFor, IsForSome}
use Rattle.rom_caller.proofs.Gathering.{all_done}
use Rattle.rom_caller.proofs.job.work_jobs.Goals as goal

pub work_all-requires-clause-ready : goal.work_all-requires-clause-ready
work_all-requires-clause-ready g c κs within =
    subst (All (λ j. IsForSome g.O.Object.Contents g.N.Label.table g.N.Label.base j.pass)) (sym c.as_mut_slice.ensures.value)
    (all_of _ (λ j. IsForSome g.O.Object.Contents g.N.Label.table g.N.Label.base j.pass) _ (λ i job next. record { index = _; is = next }) c.requires.next)

pub returns-clause-done : goal.returns-clause-done
returns-clause-done g c =
    let olds = c.as_mut_slice.result.now in let news = c.work_all.new.jobs in
    let whole = written_back news c.args.jobs.now.items c.args.jobs.now.len (omega (arith, c.work_all.auto.jobs, ap length c.as_mut_slice.ensures.value, c.args.jobs.now.ok)) in
    subst (Indexed _) (sym whole)
    (all_done g.O.Object.Contents g.N.Label.table g.N.Label.base (g.W.Work.Did c.args.room.now.work.now) (λ j. j.pass) (λ j. j.out) olds news (omega (arith, c.work_all.auto.jobs))
    (subst (Indexed (λ i job. IsFor g.O.Object.Contents g.N.Label.table g.N.Label.base i job.pass)) (sym c.as_mut_slice.ensures.value) c.requires.next)
    c.work_all.ensures.done)
