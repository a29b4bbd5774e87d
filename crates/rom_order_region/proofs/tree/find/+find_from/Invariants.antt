use Rattle.rom_order_region.specs.Nodes.{level_at}
use Rattle.rom_order_region.proofs.tree.find.+find_from.Given as goal

-- the height of the tree
abbrev pub decreases-find_from : goal.decreases-find_from
decreases-find_from g l = level_at (g.M.Look.shown.image l.space.now) l.top
