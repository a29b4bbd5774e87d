use Rattle.std.proofs.Common.{◌+◌, ◌*◌, ap, ◌∙◌, arith, length, List, ℕ}
use Rattle.std.specs.Prelude.{slice_index}
use Rattle.std.specs.FinMap as map
use Rattle.rom_model.proofs.Looks.{looks_then}
use Rattle.rom_order_region.specs.Nodes.{level_at}
use Rattle.rom_order_region.specs.High.{high}
use Rattle.rom_order_region.proofs.Finding.{looks_loaded}
use Rattle.rom_order_region.proofs.Walked.{has_tree}
use Rattle.rom_order_region.proofs.Regions.{region_ordered, region_level}
use Rattle.rom_order_region.proofs.Asked.{region_small, tree_read, level_now, found_in, told_missing, told_value}
use Rattle.rom_order_region.proofs.ordered.order_get.Goals as goal

pub load-top-requires : goal.load-top-requires
load-top-requires g c = record { within = omega (arith, c.requires.region.region.as_long) }

pub find_node-node-requires-clause-sized : goal.find_node-node-requires-clause-sized
find_node-node-requires-clause-sized g c = ap length c.load-top.ensures.image ∙ c.requires.region.region.as_long

pub find_node-node-requires-clause-tree : goal.find_node-node-requires-clause-tree
find_node-node-requires-clause-tree g c = has_tree (tree_read (g.M.Look.shown.image c.args.space.now) (g.M.Look.shown.image c.load-top.new.self) c.load-top.result c.load-top.ensures.image c.load-top.ensures.word (region_ordered c.requires.region.region))

pub returns-then-node-eq0-clause-told : goal.returns-then-node-eq0-clause-told
returns-then-node-eq0-clause-told g c s k held =
    told_missing held.1 c.args.key c.find_node-node.result (found_in held.1 (g.M.Look.shown.image c.load-top.new.self) c.load-top.result c.args.key c.find_node-node.result c.load-top.ensures.image c.load-top.ensures.word c.find_node-node.ensures.found) c.if-node-eq0.true

pub returns-then-node-eq0-clause-looks : goal.returns-then-node-eq0-clause-looks
returns-then-node-eq0-clause-looks g c s k held =
    let w = g.M.Look.shown.image c.args.space.now in
    let level = level_now w (g.M.Look.shown.image c.load-top.new.self) c.load-top.result c.load-top.ensures.image c.load-top.ensures.word in
    looks_then (1 + 2 * high (map.len s)) (omega (arith, level, region_level held.1)) (looks_loaded 1 (omega arith) c.load-top.ensures.image c.load-top.ensures.counts) c.find_node-node.ensures.looks

pub overflow_add-node : goal.overflow_add-node
overflow_add-node g c = omega (arith, c.find_node-node.ensures.within c.if-node-eq0.false, ap length c.load-top.ensures.image, c.requires.region.region.as_long, region_small c.args.order c.requires.order)

pub load-value-requires : goal.load-value-requires
load-value-requires g c = record { within = omega (arith, c.find_node-node.ensures.within c.if-node-eq0.false, ap length c.find_node-node.ensures.looks.image) }

pub returns-clause-told : goal.returns-clause-told
returns-clause-told g c s k held =
    let same = c.find_node-node.ensures.looks.image ∙ c.load-top.ensures.image in
    told_value held.1 c.args.key c.find_node-node.result c.load-value.result (found_in held.1 (g.M.Look.shown.image c.load-top.new.self) c.load-top.result c.args.key c.find_node-node.result c.load-top.ensures.image c.load-top.ensures.word c.find_node-node.ensures.found) c.if-node-eq0.false
    (c.load-value.ensures.word ∙ ap (λ (x : List ℕ). slice_index x (c.find_node-node.result + 1)) same)

pub returns-clause-looks : goal.returns-clause-looks
returns-clause-looks g c s k held =
    let w = g.M.Look.shown.image c.args.space.now in
    let level = level_now w (g.M.Look.shown.image c.load-top.new.self) c.load-top.result c.load-top.ensures.image c.load-top.ensures.word in
    let some = c.find_node-node.ensures.level c.if-node-eq0.false in
    let one = looks_then (2 * level_at w (slice_index w 3)) (omega (arith, level, some)) (looks_loaded 1 (omega arith) c.load-top.ensures.image c.load-top.ensures.counts) (c.find_node-node.ensures.soon c.if-node-eq0.false) in
    looks_then (1 + 2 * high (map.len s)) (omega (arith, region_level held.1)) one (looks_loaded 1 (omega arith) c.load-value.ensures.image c.load-value.ensures.counts)
