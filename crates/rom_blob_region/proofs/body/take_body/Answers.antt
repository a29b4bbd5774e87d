use Rattle.rom_blob_region.proofs.Bodies.{taken_body}
use Rattle.rom_blob_region.proofs.body.take_body.Goals as goal

pub returns-clause-taken : goal.returns-clause-taken
returns-clause-taken g c blocks disjoint words =
    taken_body c.args.order c.args.len c.order_for.result blocks _ (g.M.Look.shown.image c.take.new.space) c.take.result c.order_for.ensures.is c.if-len-eq0.false (c.take.ensures.taken blocks disjoint words)
