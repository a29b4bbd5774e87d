use Rattle.rom_order_region.specs.Nodes.{level_at}
use Rattle.rom_order_region.proofs.tree.find.+find_node.Given as goal

-- the height of the tree
abbrev pub decreases-find_node : goal.decreases-find_node
decreases-find_node g l = level_at (g.M.Look.shown.image l.space.now) l.top
