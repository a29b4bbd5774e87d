use Rattle.std.proofs.Common.{◌∙◌}
use Rattle.rom_order_region.proofs.Updated.{fresh}
use Rattle.rom_order_region.proofs.fresh.format_order.Goals as goal

pub returns-clause-made : goal.returns-clause-made
returns-clause-made g c =
    let z = c.store_zeros.ensures in
    fresh c.args.order (g.M.Look.shown.image c.args.space.now) (g.M.Look.shown.image c.store_zeros.new.space) (g.M.Look.shown.image c.store.new.self) (g.M.Look.shown.image c.store-2.new.self) (g.M.Look.shown.image c.format.new.space)
    c.requires.order c.requires.sized z.zeros z.others c.store.ensures.image c.store-2.ensures.image c.format.ensures.words c.format.ensures.zero c.format.ensures.others

pub returns-clause-space : goal.returns-clause-space
returns-clause-space g c = record {
  limit = c.format.ensures.costs.limit ∙ c.store-2.ensures.counts.limit ∙ c.store.ensures.counts.limit ∙ c.store_zeros.ensures.costs.limit;
  rest = c.format.ensures.costs.rest ∙ c.store-2.ensures.counts.rest ∙ c.store.ensures.counts.rest ∙ c.store_zeros.ensures.costs.rest;
}
