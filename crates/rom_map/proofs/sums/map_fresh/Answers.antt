use Rattle.std.proofs.Common.{◌≡◌, arith}
use Rattle.rom_model.specs.State.{fresh_after}
use Rattle.rom_model.proofs.Nodes.{pow_small}
use Rattle.rom_bucket.proofs.Keys.{few}
use Rattle.rom_map.proofs.Keyed.{map_keys, many}
use Rattle.rom_map.proofs.Totals.{fresh_few}
use Rattle.rom_map.proofs.sums.map_fresh.Goals as goal

-- there are no more keys than blocks
pub overflow_cast-result : goal.overflow_cast-result
overflow_cast-result g c =
    let r = c.requires.region in
    let is : c.map_sum.result ≡ fresh_after r.state c.args.place = c.map_sum.ensures.sum r.state r.count r.contents in
    omega (arith, is, fresh_few r.state c.args.place, many r.contents.1, few (map_keys r.contents.1), pow_small c.args.order c.requires.order.most)

pub returns-clause-fresh : goal.returns-clause-fresh
returns-clause-fresh g c s k held = c.map_sum.ensures.sum s k held
