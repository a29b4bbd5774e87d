use Rattle.std.proofs.Common.{◌≡◌, ◌∙◌, ap, length, map, sym, subst}
use Rattle.std.proofs.lemmas.List.{length-map}
use Rattle.rom_model.specs.Leaving.{IsClosed}
use Rattle.rom_rule.specs.declared.views.Base.{Base}
use Rattle.rom_store.specs.Closing.{kept_in}
use Rattle.rom_store.specs.Indexed.{Both}
use Rattle.rom_caller.specs.Worked.{opened_for}
use Rattle.rom_caller.proofs.Gathering.{did_at, keeps_at}
use Rattle.rom_caller.proofs.running.run_as.Goals as goal

pub returns-clause-alone : goal.returns-clause-alone
returns-clause-alone g c = λ story is. let many = c.gather.ensures.passes_many ∙ (c.work_jobs.ensures.many ∙ (c.deal.ensures.many ∙ (ap length c.start-store.ensures.passes ∙ c.requires.many.0))) in
    subst (IsClosed g.O.Object.machine story) many (c.close-closed.ensures.closed story is)

pub returns-clause-done : goal.returns-clause-done
returns-clause-done g c =
    let ps = c.gather.new.passes.items in
    let as_many = c.work_jobs.ensures.many ∙ (c.deal.ensures.many ∙ (ap length c.start-store.ensures.passes ∙ c.requires.many.0)) in
    let closed = c.close-closed.ensures in
    let Did = g.W.Work.Did c.args.work.now in
    let base : Base = g.N.Label.base in
    let same : base ≡ opened_for c.args.many c.close-closed.result.session = λ i. record { order = sym closed.ended.order i; callers = c.requires.many.1 i; image = sym closed.ended.image i; faults = sym closed.ended.opening_faults i } in
    record {
      keeps = map kept_in ps;
      as_many = (length-map ps kept_in ∙ (c.gather.ensures.passes_many ∙ as_many), c.gather.ensures.results_many ∙ as_many);
      among = keeps_at g.O.Object.Contents g.N.Label.table base ps c.close-closed.result.session.callers closed.callers c.gather.ensures.passes;
      kept = closed.kept;
      did = subst (λ (b : Base). Both (λ i v out. Did b i v out) (map kept_in ps) c.gather.new.results.items) same (did_at (λ i v out. Did base i v out) ps c.gather.new.results.items c.gather.ensures.did);
    }
