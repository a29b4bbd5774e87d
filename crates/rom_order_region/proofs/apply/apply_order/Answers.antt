use Rattle.std.proofs.Common.{◌≡◌, ◌+◌, arith, sym, ◌∙◌}
use Rattle.rom_order_region.proofs.Room.{counts_stores, stores_then, room_after}
use Rattle.rom_order_region.proofs.Updated.{raised}
use Rattle.rom_order_region.proofs.apply.apply_order.Goals as goal

pub raise_count-requires-clause-long : goal.raise_count-requires-clause-long
raise_count-requires-clause-long g c = omega (arith, c.requires.region.2.1.as_long)

pub raise_count-requires-clause-within : goal.raise_count-requires-clause-within
raise_count-requires-clause-within g c = let r = c.requires.region in omega (arith, r.2.1.count_is, r.3)

pub raise_count-requires-clause-room : goal.raise_count-requires-clause-room
raise_count-requires-clause-room g c = λ told. omega (arith, c.requires.room told)

pub update-requires-clause-region : goal.update-requires-clause-region
update-requires-clause-region g c =
    let r = c.requires.region in
    let up = raised r.3 c.raise_count.ensures.raised c.raise_count.ensures.others r.2 in
    record { tree = up.0; state = r.0; count = r.1 + 1; region = up.1 }

pub update-requires-clause-room : goal.update-requires-clause-room
update-requires-clause-room g c = room_after 255 g.met.M.Look.limit_counts (omega arith) c.requires.room (counts_stores c.raise_count.ensures.counts)

pub returns-clause-done : goal.returns-clause-done
returns-clause-done g c s k held =
    let r = c.requires.region in
    let same : k ≡ r.1 = sym held.1.count_is ∙ r.2.1.count_is in
    c.update.ensures.done s (k + 1) k (raised (omega (arith, same, r.3)) c.raise_count.ensures.raised c.raise_count.ensures.others held)

pub returns-clause-stores : goal.returns-clause-stores
returns-clause-stores g c = stores_then 256 (omega arith) (counts_stores c.raise_count.ensures.counts) c.update.ensures.stores
