use Rattle.std.proofs.Common.{◌+◌, ◌*◌, ◌≤◌, ap, ◌∙◌, arith, length}
use Rattle.std.specs.FinMap as map
use Rattle.std.proofs.Math.Nat.{mul-le-mul_left}
use Rattle.rom_model.proofs.Looks.{looks_then}
use Rattle.rom_order_region.specs.Nodes.{level_at}
use Rattle.rom_order_region.specs.High.{high}
use Rattle.rom_order_region.specs.Query.{inside}
use Rattle.rom_order_region.proofs.Finding.{looks_loaded}
use Rattle.rom_order_region.specs.declared.call.OrderAnswer.TheVariants as answer
use Rattle.rom_order_region.proofs.Regions.{region_ordered, region_level}
use Rattle.rom_order_region.proofs.Asked.{tree_read, level_now, count_in, sum_in}
use Rattle.rom_order_region.proofs.ordered.order_range.Goals as goal

pub load-top-requires : goal.load-top-requires
load-top-requires g c = record { within = omega (arith, c.requires.region.region.as_long) }

pub sum_between-all-requires-clause-sized : goal.sum_between-all-requires-clause-sized
sum_between-all-requires-clause-sized g c = ap length c.load-top.ensures.image ∙ c.requires.region.region.as_long

pub sum_between-all-requires-clause-tree : goal.sum_between-all-requires-clause-tree
sum_between-all-requires-clause-tree g c = tree_read (g.M.Look.shown.image c.args.space.now) (g.M.Look.shown.image c.load-top.new.self) c.load-top.result c.load-top.ensures.image c.load-top.ensures.word (region_ordered c.requires.region.region)

pub returns-clause-told : goal.returns-clause-told
returns-clause-told g c s k held =
    let all = c.sum_between-all in
    let count = count_in held.1 (g.M.Look.shown.image c.load-top.new.self) c.load-top.result c.args.low c.args.high all.result.count c.load-top.ensures.image c.load-top.ensures.word all.ensures.count in
    let sum = sum_in held.1 (g.M.Look.shown.image c.load-top.new.self) c.load-top.result c.args.low c.args.high all.result.sum c.load-top.ensures.image c.load-top.ensures.word all.ensures.sum in
    λ i. answer.Range (count i) (sum i)

pub returns-clause-looks : goal.returns-clause-looks
returns-clause-looks g c s k held =
    let w = g.M.Look.shown.image c.args.space.now in
    let all = c.sum_between-all in
    let v = g.M.Look.shown.image c.load-top.new.self in
    let level = level_now w v c.load-top.result c.load-top.ensures.image c.load-top.ensures.word in
    let count = count_in held.1 v c.load-top.result c.args.low c.args.high all.result.count c.load-top.ensures.image c.load-top.ensures.word all.ensures.count in
    let low : 2 * level_at v c.load-top.result ≤ 2 * high (map.len s) = omega (arith, level, region_level held.1) in
    let many = length (inside c.args.low c.args.high (map.entries s)) in
    looks_then ((many + 1) * (2 + 2 * high (map.len s))) (omega (arith, mul-le-mul_left (all.result.count + 1) low, ap (λ m. (m + 1) * (2 + 2 * high (map.len s))) count)) (looks_loaded 1 (omega arith) c.load-top.ensures.image c.load-top.ensures.counts) all.ensures.looks
