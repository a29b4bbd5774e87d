use Rattle.std.proofs.Common.{◌+◌, arith, rules, refl}
use Rattle.rom_model.specs.Space.{IsSparing}
use Rattle.rom_block.proofs.Sparing.{spared}
use Rattle.rom_block.proofs.fill.fill_node.Goals as goal

pub returns-clause-sparing : goal.returns-clause-sparing
returns-clause-sparing g c =
    let shown = g.M.Look.shown in
    let old = c.args.space.now in
    let none : IsSparing shown old old = λ told. omega arith in
    let one = spared shown old old c.store_changed.new.space c.args.at _ c.store_changed.ensures.image c.store_changed.ensures.costs c.store_changed.ensures.kept refl (omega arith) refl none in
    let two = spared shown old c.store_changed.new.space c.store_changed-2.new.space (c.args.at + 1) _ c.store_changed-2.ensures.image c.store_changed-2.ensures.costs c.store_changed-2.ensures.kept (search rules) (omega arith) (search rules) one in
    let three = spared shown old c.store_changed-2.new.space c.store_changed-3.new.space (c.args.at + 2) _ c.store_changed-3.ensures.image c.store_changed-3.ensures.costs c.store_changed-3.ensures.kept (search rules) (omega arith) (search rules) two in
    spared shown old c.store_changed-3.new.space c.store_changed-4.new.space (c.args.at + 3) _ c.store_changed-4.ensures.image c.store_changed-4.ensures.costs c.store_changed-4.ensures.kept (search rules) (omega arith) (search rules) three
