use Rattle.rom_model.specs.VecSpace.{words_of_space}
use Rattle.rom_block.proofs.Sets.{some_taken, taken_kept}
use Rattle.rom_units.proofs.block.take.Goals as goal

pub returns-clause-some : goal.returns-clause-some
returns-clause-some c =
    let held = c.requires.tree in
    some_taken c.args.order c.args.want held.0 (words_of_space c.take.new.space) _ c.take.result c.requires.want (c.take.ensures.taken held.0 held.1 held.2)

pub returns-clause-kept : goal.returns-clause-kept
returns-clause-kept c other at was = taken_kept c.args.order c.args.want other at (words_of_space c.args.space.now) (words_of_space c.take.new.space) _ _ c.take.result (λ looks. looks.image) was (c.take.ensures.taken was.0 was.2 was.3) c.take.ensures.none
