use Rattle.std.proofs.Common.{◌≡◌, sym, subst}
use Rattle.rom_order_region.specs.declared.call.OrderCall.{OrderCall}
use Rattle.rom_order_region.specs.State.{index_step}
use Rattle.rom_order_region.specs.Region.{IndexContents}
use Rattle.rom_order_region.proofs.apply.update.Goals as goal

pub returns-in-Put-clause-done : goal.returns-in-Put-clause-done
returns-in-Put-clause-done g c s k j held =
    subst (λ (x : OrderCall). (c.order_put.result ≡ (index_step c.args.order s j x).1) × IndexContents c.args.order (g.M.Look.shown.image c.order_put.new.space) (index_step c.args.order s j x).0 k) (sym c.in-Put.is) (c.order_put.ensures.done s k held)

pub returns-in-Del-clause-done : goal.returns-in-Del-clause-done
returns-in-Del-clause-done g c s k j held =
    subst (λ (x : OrderCall). (c.order_del.result ≡ (index_step c.args.order s j x).1) × IndexContents c.args.order (g.M.Look.shown.image c.order_del.new.space) (index_step c.args.order s j x).0 k) (sym c.in-Del.is) (c.order_del.ensures.done s k held)
