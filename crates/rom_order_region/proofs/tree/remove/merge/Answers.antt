use Rattle.std.proofs.Common.{◌+◌, ◌*◌, arith, refl}
use Rattle.rom_order_region.specs.Nodes.{level_at}
use Rattle.rom_order_region.proofs.Room.{stores_then, room_after}
use Rattle.rom_order_region.proofs.Detaching.{pair_right, merge_empty, merge_fork, merge_done}
use Rattle.rom_order_region.proofs.tree.remove.merge.Goals as goal

pub returns-then-right-eq0-clause-merged : goal.returns-then-right-eq0-clause-merged
returns-then-right-eq0-clause-merged g c = merge_empty c.if-right-eq0.true refl

pub take_first-first-requires-clause-tree : goal.take_first-first-requires-clause-tree
take_first-first-requires-clause-tree g c = record { tree = c.requires.pair.on_right; is = pair_right c.requires.pair.is }

pub take_first-first-requires-clause-room : goal.take_first-first-requires-clause-room
take_first-first-requires-clause-room g c = λ told. omega (arith, c.requires.room told)

pub balance-requires-clause-fork : goal.balance-requires-clause-fork
balance-requires-clause-fork g c = merge_fork c.if-right-eq0.false c.requires.pair c.take_first-first.ensures.first

pub balance-requires-clause-room : goal.balance-requires-clause-room
balance-requires-clause-room g c = room_after 9 g.met.M.Look.limit_counts (omega arith) c.requires.room c.take_first-first.ensures.stores

pub returns-clause-merged : goal.returns-clause-merged
returns-clause-merged g c = merge_done c.balance.result c.if-right-eq0.false c.take_first-first.ensures.first c.balance.ensures.turned

pub returns-clause-stores : goal.returns-clause-stores
returns-clause-stores g c = stores_then (9 * level_at (g.M.Look.shown.image c.args.space.now) c.args.right + 9) (omega arith) c.take_first-first.ensures.stores c.balance.ensures.stores
