use Rattle.rom_model.specs.VecSpace.{words_of_space}
use Rattle.rom_model.specs.Blocks.{giving}
use Rattle.rom_block.proofs.OneSet.{given_kept}
use Rattle.rom_units.proofs.block.give.Goals as goal

pub returns-clause-tree : goal.returns-clause-tree
returns-clause-tree c =
    let held = c.requires.taken in
    let given = c.give.ensures.given held.0 held.1 held.2 held.3 held.4 held.5 held.6 in
    (giving held.1 held.0, given.0, given.1)

pub returns-clause-kept : goal.returns-clause-kept
returns-clause-kept c other place le differs was =
    let held = c.requires.taken in
    let given = c.give.ensures.given held.0 held.1 held.2 held.3 held.4 held.5 held.6 in
    given_kept c.args.order c.args.want other c.args.at place (words_of_space c.args.space.now) (words_of_space c.give.new.space) held c.requires.want le differs given.0 given.1 was
