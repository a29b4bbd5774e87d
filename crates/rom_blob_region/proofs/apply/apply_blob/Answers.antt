use Rattle.std.proofs.Common.{◌≡◌, ◌+◌, arith, sym, ◌∙◌}
use Rattle.rom_model.proofs.Looks.{room_left}
use Rattle.rom_blob_region.proofs.Recounting.{raised}
use Rattle.rom_blob_region.proofs.Spending.{stores_then}
use Rattle.rom_blob_region.proofs.apply.apply_blob.Goals as goal

pub raise_count-requires-clause-long : goal.raise_count-requires-clause-long
raise_count-requires-clause-long g c = omega (arith, c.requires.region.2.1.as_long)

pub raise_count-requires-clause-within : goal.raise_count-requires-clause-within
raise_count-requires-clause-within g c = omega (arith, c.requires.region.2.1.root.count_is, c.requires.region.3)

pub update-requires-clause-region : goal.update-requires-clause-region
update-requires-clause-region g c =
    let r = c.requires.region in
    (r.0, r.1 + 1, raised c.requires.order.least r.3 c.raise_count.ensures.raised c.raise_count.ensures.others r.2)

pub update-requires-clause-room : goal.update-requires-clause-room
update-requires-clause-room g c = room_left 72 g.met.M.Look.limit_counts (omega arith) c.requires.room c.raise_count.ensures.costs

pub returns-clause-done : goal.returns-clause-done
returns-clause-done g c s k held =
    let r = c.requires.region in
    let same : k ≡ r.1 = sym held.1.root.count_is ∙ r.2.1.root.count_is in
    c.update.ensures.done s k (k + 1) (raised c.requires.order.least (omega (arith, same, r.3)) c.raise_count.ensures.raised c.raise_count.ensures.others held)

pub returns-clause-crowded : goal.returns-clause-crowded
returns-clause-crowded g c s k held =
    let r = c.requires.region in
    let same : k ≡ r.1 = sym held.1.root.count_is ∙ r.2.1.root.count_is in
    c.update.ensures.crowded s (k + 1) (raised c.requires.order.least (omega (arith, same, r.3)) c.raise_count.ensures.raised c.raise_count.ensures.others held)

pub returns-clause-stores : goal.returns-clause-stores
returns-clause-stores g c = stores_then 128 (omega arith) c.raise_count.ensures.costs c.update.ensures.stores
