use Rattle.std.proofs.Common.{ap, sym, ◌∙◌, arith}
use Rattle.rom_order_region.specs.Tree.{height}
use Rattle.rom_order_region.proofs.Frame.{top_small, top_within, no_tree, height_word, tree_small}
use Rattle.rom_order_region.proofs.tree.node.height.Goals as goal

pub overflow_add-top : goal.overflow_add-top
overflow_add-top g c =
    let t = c.requires.tree in
    omega (arith, top_small c.args.order c.args.top t.tree c.requires.order t.is.apart t.is.at_is c.if-top-eq0.false)

pub load-requires : goal.load-requires
load-requires g c =
    let t = c.requires.tree in
    record { within = omega (arith, top_within c.args.order c.args.top t.tree c.requires.order t.is.apart t.is.at_is c.if-top-eq0.false, c.requires.sized) }

pub returns-then-top-eq0-clause-is : goal.returns-then-top-eq0-clause-is
returns-then-top-eq0-clause-is g c t is = ap height (sym (no_tree c.args.order c.args.top t is.at_is c.if-top-eq0.true))

pub returns-clause-is : goal.returns-clause-is
returns-clause-is g c t is = c.load.ensures.word ∙ height_word c.args.order c.args.top (g.M.Look.shown.image c.args.space.now) t is.at_is c.if-top-eq0.false is.stands

pub returns-clause-small : goal.returns-clause-small
returns-clause-small g c =
    let t = c.requires.tree in
    omega (arith, c.load.ensures.word, height_word c.args.order c.args.top (g.M.Look.shown.image c.args.space.now) t.tree t.is.at_is c.if-top-eq0.false t.is.stands, tree_small c.requires.order t.is)
