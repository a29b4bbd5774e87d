use Rattle.rom_order_region.specs.Nodes.{level_at}
use Rattle.rom_order_region.proofs.tree.remove.+take_first.Given as goal

-- the height of the tree
abbrev pub decreases-take_first : goal.decreases-take_first
decreases-take_first g l = level_at (g.M.Look.shown.image l.space.now) l.top
