use Rattle.std.proofs.Common.{◌≡◌, ◌+◌, ◌/◌, get_or, sym, ◌∙◌, rules}
use Rattle.rom_block.specs.Walk.{buddy_of, joined}
use Rattle.rom_block.proofs.Above.{raised_same}
use Rattle.rom_block.proofs.tree.raise.Goals as goal

pub returns-then-load-anew-clause-image : goal.returns-then-load-anew-clause-image
returns-then-load-anew-clause-image g c =
    let old = g.M.Look.shown.image c.args.space.now in
    let already : get_or old (16 + c.args.node / 2) 0 ≡ joined c.args.level c.args.word (get_or old (16 + buddy_of c.args.node) 0) = search rules in
    let stays : g.M.Look.shown.image c.load-2.new.self ≡ old = search rules in
    stays ∙ sym (raised_same c.args.level c.args.node c.args.word old c.requires.node.positive c.requires.word already)
