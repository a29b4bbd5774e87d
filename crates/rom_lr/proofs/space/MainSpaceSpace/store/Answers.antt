use Rattle.std.proofs.Common.{◌≡◌, ◌+◌, ◌≤◌, sym, refl, ap, subst, arith}
use Rattle.rom_lr.proofs.Logging.{log_stored}
use Rattle.rom_ranges.specs.Changes.{IsLogOf}
use Rattle.rom_rule.specs.Readers.{Settled}
use Rattle.rom_rule.specs.Views.{plan_of}
use Rattle.rom_rule.specs.declared.views.Plan.{Plan}
use Rattle.rom_rule.specs.declared.views.View.{View}
use Rattle.rom_lr.proofs.space.MainSpaceSpace.store.Goals as goal

pub invariant_of-self-clause-unread : goal.invariant_of-self-clause-unread
invariant_of-self-clause-unread g c = subst (λ (v : View). ((plan_of v).side ≡ 1) × Settled v.base (plan_of v)) (sym c.store_main.ensures.stored.2) c.args.self.now.unread

pub invariant_of-self-clause-logged : goal.invariant_of-self-clause-logged
invariant_of-self-clause-logged g c =
    let p : Plan = plan_of c.args.self.now.seat.now.token.me.0 in
    let add = c.add.ensures in
    let left : c.args.self.now.log.now.added + 1 ≤ c.args.self.now.log.now.room = c.requires.room refl in
    subst (λ (q : Plan). IsLogOf q.back q.main c.add.new.self) (sym (ap plan_of c.store_main.ensures.stored.2))
    (log_stored p.back p.main c.args.self.now.log.now c.add.new.self c.args.at c.args.value c.requires.within c.args.self.now.logged add.held add.within add.longer add.count (add.added (omega (arith, left))))
