use Rattle.std.proofs.Common.{◌≡◌, sym, subst}
use Rattle.rom_model.specs.Space.{Looks}
use Rattle.rom_order_region.specs.declared.call.OrderQuery.{OrderQuery}
use Rattle.rom_order_region.specs.State.{index_tell, index_cost}
use Rattle.rom_order_region.proofs.apply.answer_order.Goals as goal

pub returns-in-Get-clause-told : goal.returns-in-Get-clause-told
returns-in-Get-clause-told g c s k held = subst (λ (q : OrderQuery). c.order_get.result ≡ index_tell s q) (sym c.in-Get.is) (c.order_get.ensures.told s k held)

pub returns-in-Get-clause-looks : goal.returns-in-Get-clause-looks
returns-in-Get-clause-looks g c s k held = subst (λ (q : OrderQuery). Looks g.M.Look.shown (index_cost c.args.order s q) c.args.space.now c.order_get.new.space) (sym c.in-Get.is) (c.order_get.ensures.looks s k held)

pub returns-in-From-clause-told : goal.returns-in-From-clause-told
returns-in-From-clause-told g c s k held = subst (λ (q : OrderQuery). c.order_from.result ≡ index_tell s q) (sym c.in-From.is) (c.order_from.ensures.told s k held)

pub returns-in-From-clause-looks : goal.returns-in-From-clause-looks
returns-in-From-clause-looks g c s k held = subst (λ (q : OrderQuery). Looks g.M.Look.shown (index_cost c.args.order s q) c.args.space.now c.order_from.new.space) (sym c.in-From.is) (c.order_from.ensures.looks s k held)

pub returns-in-Range-clause-told : goal.returns-in-Range-clause-told
returns-in-Range-clause-told g c s k held = subst (λ (q : OrderQuery). c.order_range.result ≡ index_tell s q) (sym c.in-Range.is) (c.order_range.ensures.told s k held)

pub returns-in-Range-clause-looks : goal.returns-in-Range-clause-looks
returns-in-Range-clause-looks g c s k held = subst (λ (q : OrderQuery). Looks g.M.Look.shown (index_cost c.args.order s q) c.args.space.now c.order_range.new.space) (sym c.in-Range.is) (c.order_range.ensures.looks s k held)
