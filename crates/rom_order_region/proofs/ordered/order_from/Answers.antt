use Rattle.std.proofs.Common.{◌+◌, ◌*◌, ap, ◌∙◌, arith, length, List, ℕ}
use Rattle.std.specs.Prelude.{slice_index, Some, None}
use Rattle.std.specs.FinMap as map
use Rattle.rom_model.proofs.Looks.{looks_then}
use Rattle.rom_order_region.specs.Nodes.{level_at}
use Rattle.rom_order_region.specs.High.{high}
use Rattle.rom_order_region.proofs.Finding.{looks_loaded}
use Rattle.rom_order_region.proofs.Walked.{has_tree}
use Rattle.rom_order_region.proofs.Regions.{region_ordered, region_level}
use Rattle.rom_order_region.proofs.Asked.{region_small, tree_read, level_now, near_in, told_none, told_pair}
use Rattle.rom_order_region.proofs.ordered.order_from.Goals as goal

pub load-top-requires : goal.load-top-requires
load-top-requires g c = record { within = omega (arith, c.requires.region.region.as_long) }

pub find_from-requires-clause-sized : goal.find_from-requires-clause-sized
find_from-requires-clause-sized g c = ap length c.load-top.ensures.image ∙ c.requires.region.region.as_long

pub find_from-requires-clause-tree : goal.find_from-requires-clause-tree
find_from-requires-clause-tree g c = has_tree (tree_read (g.M.Look.shown.image c.args.space.now) (g.M.Look.shown.image c.load-top.new.self) c.load-top.result c.load-top.ensures.image c.load-top.ensures.word (region_ordered c.requires.region.region))

pub returns-in-None-clause-told : goal.returns-in-None-clause-told
returns-in-None-clause-told g c s k held =
    told_none held.1 c.args.key (near_in held.1 (g.M.Look.shown.image c.load-top.new.self) c.load-top.result c.args.key None c.load-top.ensures.image c.load-top.ensures.word c.in-None.ensures.found)

pub returns-in-None-clause-looks : goal.returns-in-None-clause-looks
returns-in-None-clause-looks g c s k held =
    let w = g.M.Look.shown.image c.args.space.now in
    let level = level_now w (g.M.Look.shown.image c.load-top.new.self) c.load-top.result c.load-top.ensures.image c.load-top.ensures.word in
    looks_then (2 + 2 * high (map.len s)) (omega (arith, level, region_level held.1)) (looks_loaded 1 (omega arith) c.load-top.ensures.image c.load-top.ensures.counts) c.find_from.ensures.looks

pub overflow_add-near : goal.overflow_add-near
overflow_add-near g c = omega (arith, c.in-Some.ensures.within, ap length c.load-top.ensures.image, c.requires.region.region.as_long, region_small c.args.order c.requires.order)

pub load-value-requires : goal.load-value-requires
load-value-requires g c = record { within = omega (arith, c.in-Some.ensures.within, ap length c.find_from.ensures.looks.image) }

pub returns-in-Some-clause-told : goal.returns-in-Some-clause-told
returns-in-Some-clause-told g c s k held =
    let same = c.find_from.ensures.looks.image ∙ c.load-top.ensures.image in
    told_pair held.1 c.args.key c.load-value.result c.in-Some.near (near_in held.1 (g.M.Look.shown.image c.load-top.new.self) c.load-top.result c.args.key (Some c.in-Some.near) c.load-top.ensures.image c.load-top.ensures.word c.in-Some.ensures.found)
    (c.load-value.ensures.word ∙ ap (λ (x : List ℕ). slice_index x (c.in-Some.near.node + 1)) same)

pub returns-in-Some-clause-looks : goal.returns-in-Some-clause-looks
returns-in-Some-clause-looks g c s k held =
    let w = g.M.Look.shown.image c.args.space.now in
    let level = level_now w (g.M.Look.shown.image c.load-top.new.self) c.load-top.result c.load-top.ensures.image c.load-top.ensures.word in
    let one = looks_then (1 + 2 * level_at w (slice_index w 3)) (omega (arith, level)) (looks_loaded 1 (omega arith) c.load-top.ensures.image c.load-top.ensures.counts) c.find_from.ensures.looks in
    looks_then (2 + 2 * high (map.len s)) (omega (arith, region_level held.1)) one (looks_loaded 1 (omega arith) c.load-value.ensures.image c.load-value.ensures.counts)
