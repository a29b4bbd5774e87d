use Rattle.rom_order_region.proofs.Summed.{has_range}
use Rattle.rom_order_region.proofs.tree.find.sum_between.Goals as goal

pub add_between-requires-clause-tree : goal.add_between-requires-clause-tree
add_between-requires-clause-tree g c = has_range c.args.low c.args.high c.requires.order c.requires.tree
