use Rattle.rom_order_region.specs.Nodes.{level_at}
use Rattle.rom_order_region.proofs.tree.insert.+attach.Given as goal

-- the height of the tree
abbrev pub decreases-attach : goal.decreases-attach
decreases-attach g l = level_at (g.M.Look.shown.image l.space.now) l.top
