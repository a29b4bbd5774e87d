use Rattle.std.proofs.Common.{subst}
use Rattle.rom_order_region.specs.declared.tree.turn.Side.{Side}
use Rattle.rom_order_region.specs.Nodes.{IsTree}
use Rattle.rom_order_region.specs.Sides.{over}
use Rattle.rom_order_region.proofs.Frame.{left_below, right_below}
use Rattle.rom_order_region.proofs.tree.turn.subtrees_on.Goals as goal

pub returns-in-Left-clause-trees : goal.returns-in-Left-clause-trees
returns-in-Left-clause-trees g c b k v x y is =
    let here = subst (λ (s : Side). IsTree c.args.order (g.M.Look.shown.image c.args.space.now) c.args.at (over s b k v x y)) c.in-Left.is is in
    (left_below c.read_branch-there.ensures.left here, right_below c.read_branch-there.ensures.right here)

pub returns-in-Right-clause-trees : goal.returns-in-Right-clause-trees
returns-in-Right-clause-trees g c b k v x y is =
    let here = subst (λ (s : Side). IsTree c.args.order (g.M.Look.shown.image c.args.space.now) c.args.at (over s b k v x y)) c.in-Right.is is in
    (right_below c.read_branch-there.ensures.right here, left_below c.read_branch-there.ensures.left here)
