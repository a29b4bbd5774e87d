use Rattle.std.proofs.Common.{arith, ap, sym, subst, ◌∙◌, cond}
use Rattle.rom_model.specs.Space.{Looks}
use Rattle.rom_model.specs.State.{tell, value_at}
use Rattle.rom_model.specs.Walks.{cost}
use Rattle.rom_model.specs.declared.call.Answer.TheVariants.{Yes, No, Total, Fresh}
use Rattle.rom_model.proofs.Looks.{looks_most}
use Rattle.rom_heap.proofs.Steps.{peek_some, peek_none}
use Rattle.rom_heap.proofs.answer.answer.Goals as goal

pub returns-then-set_has-clause-told : goal.returns-then-set_has-clause-told
returns-then-set_has-clause-told g c s k held = ap (λ b. cond b Yes No) (c.if-set_has.ensures.is s k held) ∙ sym (ap (tell s) c.in-Has.is)

pub returns-then-set_has-clause-looks : goal.returns-then-set_has-clause-looks
returns-then-set_has-clause-looks g c s k held = subst (λ q. Looks g.M.Look.shown (cost c.args.order s q) c.args.space.now c.set_has.new.space) (sym c.in-Has.is) (c.set_has.ensures.looks s k held)

pub returns-else-set_has-clause-told : goal.returns-else-set_has-clause-told
returns-else-set_has-clause-told g c s k held = ap (λ b. cond b Yes No) (c.if-set_has.ensures.is s k held) ∙ sym (ap (tell s) c.in-Has.is)

pub returns-else-set_has-clause-looks : goal.returns-else-set_has-clause-looks
returns-else-set_has-clause-looks g c s k held = subst (λ q. Looks g.M.Look.shown (cost c.args.order s q) c.args.space.now c.set_has.new.space) (sym c.in-Has.is) (c.set_has.ensures.looks s k held)

pub returns-in-Some-clause-told : goal.returns-in-Some-clause-told
returns-in-Some-clause-told g c s k held = ap value_at (c.in-Some.ensures.is s k held) ∙ sym (ap (tell s) c.in-Get.is)

pub returns-in-Some-clause-looks : goal.returns-in-Some-clause-looks
returns-in-Some-clause-looks g c s k held =
    subst (λ q. Looks g.M.Look.shown (cost c.args.order s q) c.args.space.now c.map_get.new.space) (sym c.in-Get.is) (looks_most g.M.Look.shown _ _ (omega arith) (c.map_get.ensures.looks s k held))

pub returns-in-None-clause-told : goal.returns-in-None-clause-told
returns-in-None-clause-told g c s k held = ap value_at (c.in-None.ensures.is s k held) ∙ sym (ap (tell s) c.in-Get.is)

pub returns-in-None-clause-looks : goal.returns-in-None-clause-looks
returns-in-None-clause-looks g c s k held =
    subst (λ q. Looks g.M.Look.shown (cost c.args.order s q) c.args.space.now c.map_get.new.space) (sym c.in-Get.is) (looks_most g.M.Look.shown _ _ (omega arith) (c.map_get.ensures.looks s k held))

pub returns-in-Some-queue_front-clause-told : goal.returns-in-Some-queue_front-clause-told
returns-in-Some-queue_front-clause-told g c s k held = sym (ap (tell s) c.in-Peek.is ∙ peek_some s.queue _ (c.in-Some-queue_front.ensures.front s k held))

pub returns-in-None-queue_front-clause-told : goal.returns-in-None-queue_front-clause-told
returns-in-None-queue_front-clause-told g c s k held = sym (ap (tell s) c.in-Peek.is ∙ peek_none s.queue (c.in-None-queue_front.ensures.front s k held))

pub returns-in-Len-clause-told : goal.returns-in-Len-clause-told
returns-in-Len-clause-told g c s k held = c.sizes.ensures.told s k held ∙ sym (ap (tell s) c.in-Len.is)

pub returns-in-Total-clause-told : goal.returns-in-Total-clause-told
returns-in-Total-clause-told g c s k held = ap Total (c.map_total.ensures.total s k held) ∙ sym (ap (tell s) c.in-Total.is)

pub returns-in-Total-clause-looks : goal.returns-in-Total-clause-looks
returns-in-Total-clause-looks g c s k held =
    subst (λ q. Looks g.M.Look.shown (cost c.args.order s q) c.args.space.now c.map_total.new.space) (sym c.in-Total.is) (looks_most g.M.Look.shown _ _ (omega arith) (c.map_total.ensures.looks s k held))

pub returns-in-Fresh-clause-told : goal.returns-in-Fresh-clause-told
returns-in-Fresh-clause-told g c s k held = ap Fresh (c.map_fresh.ensures.fresh s k held) ∙ sym (ap (tell s) c.in-Fresh.is)

pub returns-in-Fresh-clause-looks : goal.returns-in-Fresh-clause-looks
returns-in-Fresh-clause-looks g c s k held =
    subst (λ q. Looks g.M.Look.shown (cost c.args.order s q) c.args.space.now c.map_fresh.new.space) (sym c.in-Fresh.is) (looks_most g.M.Look.shown _ _ (omega arith) (c.map_fresh.ensures.looks s k held))
