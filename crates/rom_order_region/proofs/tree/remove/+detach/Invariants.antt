use Rattle.rom_order_region.specs.Nodes.{level_at}
use Rattle.rom_order_region.proofs.tree.remove.+detach.Given as goal

-- the height of the tree
abbrev pub decreases-detach : goal.decreases-detach
decreases-detach g l = level_at (g.M.Look.shown.image l.space.now) l.top
