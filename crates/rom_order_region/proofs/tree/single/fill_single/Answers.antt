use Rattle.std.proofs.Common.{◌∙◌, arith}
use Rattle.rom_order_region.proofs.Frame.{node_within, node_small}
use Rattle.rom_order_region.proofs.Filled.{single}
use Rattle.rom_order_region.proofs.tree.single.fill_single.Goals as goal

pub fill_node-requires-clause-within : goal.fill_node-requires-clause-within
fill_node-requires-clause-within g c = let b = c.requires.block in omega (arith, b.1, node_within c.args.order b.0 c.requires.order b.2, c.requires.sized)

pub fill_node-requires-clause-small : goal.fill_node-requires-clause-small
fill_node-requires-clause-small g c = let b = c.requires.block in omega (arith, b.1, node_small c.args.order b.0 c.requires.order b.2)

pub overflow_add-at : goal.overflow_add-at
overflow_add-at g c = let b = c.requires.block in omega (arith, b.1, node_small c.args.order b.0 c.requires.order b.2)

pub fill_node-requires-2-clause-within : goal.fill_node-requires-2-clause-within
fill_node-requires-2-clause-within g c = let b = c.requires.block in omega (arith, b.1, node_within c.args.order b.0 c.requires.order b.2, c.requires.sized, c.fill_node.ensures.others.as_long)

pub fill_node-requires-2-clause-small : goal.fill_node-requires-2-clause-small
fill_node-requires-2-clause-small g c = let b = c.requires.block in omega (arith, b.1, node_small c.args.order b.0 c.requires.order b.2)

pub returns-clause-filled : goal.returns-clause-filled
returns-clause-filled g c b here lt =
    let f = c.fill_node.ensures in
    let h = c.fill_node-2.ensures in
    single c.args.order b c.args.at c.args.key c.args.value (g.M.Look.shown.image c.args.space.now) (g.M.Look.shown.image c.fill_node.new.space) (g.M.Look.shown.image c.fill_node-2.new.space)
    here f.others h.others f.first f.second f.third f.fourth h.first h.second h.third h.fourth

pub returns-clause-as_long : goal.returns-clause-as_long
returns-clause-as_long g c = c.fill_node-2.ensures.others.as_long ∙ c.fill_node.ensures.others.as_long
