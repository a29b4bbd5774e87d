use Rattle.rom_model.specs.Blocks.{nothing}
use Rattle.rom_block.proofs.Sets.{none_disjoint}
use Rattle.rom_units.proofs.block.free_region.Goals as goal

pub returns-clause-tree : goal.returns-clause-tree
returns-clause-tree c = (nothing, none_disjoint c.args.order, c.format.ensures.words)
