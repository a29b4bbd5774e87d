use Rattle.std.proofs.Common.{length, ap, ◌∙◌, refl, subst, sym}
use Rattle.rom_heap.specs.contracts.trio.TrioObject.TheImpl.Laws as laws
use Rattle.rom_model.specs.Region.{Contents}
use Rattle.rom_store.specs.Callers.{IsNewCaller}
use Rattle.rom_store.specs.Indexed.{Indexed}
use Rattle.rom_follow.specs.Alone.{seen_by, tried_by}
use Rattle.rom_follow.proofs.Starting.{first_new, new_alone, new_follower, none_follows, only_one}
use Rattle.rom_follow.proofs.follower.Follower.start.Goals as goal

pub count_of-count-requires-clause-alone : goal.count_of-count-requires-clause-alone
count_of-count-requires-clause-alone g c =
    let passes = c.start-store.ensures.passes in
    let new : IsNewCaller Contents g.N.Label.table g.N.Label.base 0 c.index_mut.result.now =
    first_new g.N.Label.table g.N.Label.base c.start-store.result.1.items c.index_mut.result.now (ap length passes ∙ c.requires.one.0) (subst (Indexed (IsNewCaller Contents g.N.Label.table g.N.Label.base)) (sym passes) c.requires.passes) c.index_mut.ensures.value in
    new_alone g.N.Label.table g.N.Label.base c.index_mut.result.now c.requires.one.1 c.requires.formed new

pub count_of-count-requires-clause-none : goal.count_of-count-requires-clause-none
count_of-count-requires-clause-none g c =
    let passes = c.start-store.ensures.passes in
    let new : IsNewCaller Contents g.N.Label.table g.N.Label.base 0 c.index_mut.result.now =
    first_new g.N.Label.table g.N.Label.base c.start-store.result.1.items c.index_mut.result.now (ap length passes ∙ c.requires.one.0) (subst (Indexed (IsNewCaller Contents g.N.Label.table g.N.Label.base)) (sym passes) c.requires.passes) c.index_mut.ensures.value in
    ap (λ v. v.outcomes) new.bare

pub invariant_of-result : goal.invariant_of-result
invariant_of-result g c =
    new_follower g.N.Label.table g.N.Label.base c.start-store.result.1.items c.count_of-count.new.pass c.count_of-count.result (ap length c.start-store.ensures.passes ∙ c.requires.one.0) (λ order words s k held. (laws.contents_within-law order words s k held).2)
    c.count_of-count.ensures.alone c.count_of-count.ensures.none.0 c.count_of-count.ensures.none.1 c.count_of-count.ensures.count

pub returns-clause-none : goal.returns-clause-none
returns-clause-none g c =
    let one = only_one c.start-store.result.1.items c.count_of-count.new.pass (ap length c.start-store.ensures.passes ∙ c.requires.one.0) in
    (ap seen_by one ∙ c.count_of-count.ensures.none.1, ap tried_by one ∙ c.count_of-count.ensures.none.0, refl)

pub returns-clause-done : goal.returns-clause-done
returns-clause-done g c = (invariant_of-result g c).done

pub returns-clause-follows : goal.returns-clause-follows
returns-clause-follows g c s0 n0 history first within held =
    let none = returns-clause-none g c in
    none_follows g.N.Label.base s0 n0 history first _ none.0 none.1 none.2 within held
