use Rattle.std.proofs.Common.{◌≤◌, ap, ◌∙◌, subst, arith}
use Rattle.rom_model.specs.History.{LAST_COUNT}
use Rattle.rom_follow.specs.Alone.{followed}
use Rattle.rom_follow.specs.Followed.{HasDoneUpdates}
use Rattle.rom_follow.proofs.Taking.{IsTaking, few_done, in_list, takes_done, takes_follower, takes_next, takes_told}
use Rattle.rom_follow.proofs.follower.Follower.take_next.Given.{Over}
use Rattle.rom_follow.proofs.follower.Follower.take_next.Goals as goal

pub overflow_add-self : goal.overflow_add-self
overflow_add-self g c =
    let formed = c.self.invariant.only.2.formed in
    let within : c.self.inside.count ≤ LAST_COUNT = (c.self.invariant.done formed.0 formed.1 formed.2).within in
    omega (arith, within, c.done.ensures, few_done c.of-taken.result)

taking : (g : Over) (c : goal.After-self-3-1 g) → IsTaking g.N.Label.table g.N.Label.base c.args.frame.now c.self.inside.passes.items c.index_mut.result.now c.update_alone-told.new.pass c.self.inside.count c.self.inside.diverged c.update_alone-told.result c.of-taken.result c.done.result c.parted-self-inside.result c.args.self.now
taking g c =
    let own = in_list g.N.Label.table g.N.Label.base c.self.inside.passes.items (followed c.self.inside.count c.self.inside.passes.items c.self.inside.diverged) c.index_mut.result.now c.self.invariant c.index_mut.ensures.value in
    let agrees = ap (λ w. w.diverged) c.self.view_is ∙ c.requires.agrees in
    record {
      one = own.0;
      seen_as = c.self.view_is;
      agrees = c.requires.agrees;
      next = c.requires.next;
      updates = record {
        before = own.1;
        after = c.update_alone-told.ensures.alone;
        unposted = c.update_alone-told.ensures.unposted;
        tried = c.update_alone-told.ensures.tried;
        is_told = c.update_alone-told.ensures.told;
        outcome = c.update_alone-told.ensures.outcome;
        done = λ s k held. subst (HasDoneUpdates g.N.Label.base.order s k) (λ i. followed c.self.inside.count (own.0 i) (agrees i)) (c.self.invariant.done s k held);
      };
      answer = c.of-taken.ensures.answer;
      done_is = c.done.ensures;
      parted_is = c.parted-self-inside.ensures;
    }

pub invariant_of-self : goal.invariant_of-self
invariant_of-self g c = takes_follower _ _ _ _ _ _ _ _ _ _ _ _ _ (taking g c)

pub returns-clause-next : goal.returns-clause-next
returns-clause-next g c = takes_next _ _ _ _ _ _ _ _ _ _ _ _ _ (taking g c)

pub returns-clause-told : goal.returns-clause-told
returns-clause-told g c = takes_told _ _ _ _ _ _ _ _ _ _ _ _ _ (taking g c)

pub returns-clause-done : goal.returns-clause-done
returns-clause-done g c = takes_done _ _ _ _ _ _ _ _ _ _ _ _ _ (taking g c)
