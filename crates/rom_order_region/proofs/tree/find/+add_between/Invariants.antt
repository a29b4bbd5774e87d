use Rattle.rom_order_region.specs.Nodes.{level_at}
use Rattle.rom_order_region.proofs.tree.find.+add_between.Given as goal

-- the height of the tree
abbrev pub decreases-add_between : goal.decreases-add_between
decreases-add_between g l = level_at (g.M.Look.shown.image l.space.now) l.top
