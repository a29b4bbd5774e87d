use Rattle.std.proofs.Common.{subst, sym, map, length, arith, ap}
use Rattle.std.specs.Prelude.{All}
use Rattle.rom_store.specs.Indexed.{Indexed}
use Rattle.rom_store.specs.Working.{HasNotBegun, IsNext}
use Rattle.rom_store.proofs.Places.{all_of, written_back}
use Rattle.rom_store.proofs.Gathering.{all_past}
use Rattle.rom_store.proofs.work.work_jobs.Goals as goal

pub work_all-requires-clause-ready : goal.work_all-requires-clause-ready
work_all-requires-clause-ready g c = let scripts = map (λ v. v.items) c.args.room.now.scripts.now in
    λ κs le. subst (All (λ j. HasNotBegun g.O.Object.Contents g.O.Object.machine.call_words g.N.Label.table g.N.Label.base scripts j.pass j.results)) (sym c.as_mut_slice.ensures.value)
    (all_of _ (λ j. HasNotBegun g.O.Object.Contents g.O.Object.machine.call_words g.N.Label.table g.N.Label.base scripts j.pass j.results) _ (λ i job next. next.ready) c.requires.next)

pub returns-clause-past : goal.returns-clause-past
returns-clause-past g c = let scripts = map (λ v. v.items) c.args.room.now.scripts.now in
    let olds = c.as_mut_slice.result.now in let news = c.work_all.new.jobs in
    let whole = written_back news c.args.jobs.now.items c.args.jobs.now.len (omega (arith, c.work_all.auto.jobs, ap length c.as_mut_slice.ensures.value, c.args.jobs.now.ok)) in
    subst (Indexed _) (sym whole)
    (all_past g.O.Object.machine g.O.Object.Contents g.N.Label.table g.N.Label.base scripts (λ j. j.pass) (λ j. j.results) olds news (omega (arith, c.work_all.auto.jobs))
    (subst (Indexed (λ j job. IsNext g.O.Object.Contents g.O.Object.machine.call_words g.N.Label.table g.N.Label.base scripts j job.pass job.results)) (sym c.as_mut_slice.ensures.value) c.requires.next)
    c.work_all.ensures.of c.work_all.ensures.number c.work_all.ensures.done)
