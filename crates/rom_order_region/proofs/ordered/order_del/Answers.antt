use Rattle.std.proofs.Common.{◌≡◌, ◌+◌, ◌-◌, ◌*◌, ap, ◌∙◌, arith, length, List, ℕ, subst, length-set}
use Rattle.std.specs.Prelude.{slice_index, slice_set}
use Rattle.rom_model.proofs.Looks.{stores_most}
use Rattle.rom_order_region.specs.Tree.{height}
use Rattle.rom_order_region.specs.Nodes.{level_at}
use Rattle.rom_order_region.proofs.Room.{looks_stores, counts_stores, stores_then, stores_more, room_after}
use Rattle.rom_order_region.proofs.Walked.{has_tree}
use Rattle.rom_order_region.proofs.Frame.{level_is}
use Rattle.rom_order_region.proofs.Detaching.{DetachedBy}
use Rattle.rom_order_region.proofs.Regions.{region_ordered, region_low, region_some, size_kept}
use Rattle.rom_order_region.proofs.Asked.{region_small, tree_read, level_now, found_in}
use Rattle.rom_order_region.proofs.Deleting.{del_none, del_was, may_give}
use Rattle.rom_order_region.proofs.ordered.order_del.Goals as goal

pub load-top-requires : goal.load-top-requires
load-top-requires g c = record { within = omega (arith, c.requires.region.region.as_long) }

pub find_node-node-requires-clause-sized : goal.find_node-node-requires-clause-sized
find_node-node-requires-clause-sized g c = ap length c.load-top.ensures.image ∙ c.requires.region.region.as_long

pub find_node-node-requires-clause-tree : goal.find_node-node-requires-clause-tree
find_node-node-requires-clause-tree g c = has_tree (tree_read (g.M.Look.shown.image c.args.space.now) (g.M.Look.shown.image c.load-top.new.self) c.load-top.result c.load-top.ensures.image c.load-top.ensures.word (region_ordered c.requires.region.region))

pub returns-then-node-eq0-clause-done : goal.returns-then-node-eq0-clause-done
returns-then-node-eq0-clause-done g c s k held =
    del_none c.requires.order held.1 c.args.key c.find_node-node.result (found_in held.1 (g.M.Look.shown.image c.load-top.new.self) c.load-top.result c.args.key c.find_node-node.result c.load-top.ensures.image c.load-top.ensures.word c.find_node-node.ensures.found) (g.M.Look.shown.image c.find_node-node.new.space) (c.find_node-node.ensures.looks.image ∙ c.load-top.ensures.image) c.if-node-eq0.true

pub returns-then-node-eq0-clause-stores : goal.returns-then-node-eq0-clause-stores
returns-then-node-eq0-clause-stores g c =
    let stores1 = counts_stores c.load-top.ensures.counts in
    let stores2 = stores_then 0 (omega arith) stores1 (looks_stores c.find_node-node.ensures.looks) in
    stores_more 255 (omega arith) stores2

pub overflow_add-node : goal.overflow_add-node
overflow_add-node g c = omega (arith, c.find_node-node.ensures.within c.if-node-eq0.false, ap length c.load-top.ensures.image, c.requires.region.region.as_long, region_small c.args.order c.requires.order)

pub load-before-requires : goal.load-before-requires
load-before-requires g c = record { within = omega (arith, c.find_node-node.ensures.within c.if-node-eq0.false, ap length c.find_node-node.ensures.looks.image) }

pub detach-top-requires-clause-sized : goal.detach-top-requires-clause-sized
detach-top-requires-clause-sized g c = ap length (c.load-before.ensures.image ∙ c.find_node-node.ensures.looks.image ∙ c.load-top.ensures.image) ∙ c.requires.region.region.as_long

pub detach-top-requires-clause-tree : goal.detach-top-requires-clause-tree
detach-top-requires-clause-tree g c =
    has_tree (tree_read (g.M.Look.shown.image c.args.space.now) (g.M.Look.shown.image c.load-before.new.self) c.load-top.result (c.load-before.ensures.image ∙ c.find_node-node.ensures.looks.image ∙ c.load-top.ensures.image) c.load-top.ensures.word (region_ordered c.requires.region.region))

pub detach-top-requires-clause-room : goal.detach-top-requires-clause-room
detach-top-requires-clause-room g c =
    let same = c.load-before.ensures.image ∙ c.find_node-node.ensures.looks.image ∙ c.load-top.ensures.image in
    let v = g.M.Look.shown.image c.load-before.new.self in
    let w = g.M.Look.shown.image c.args.space.now in
    let r = c.requires.region.region in
    let level : level_at v c.load-top.result ≡ height c.requires.region.tree = level_now w v c.load-top.result same c.load-top.ensures.word ∙ level_is c.args.order (slice_index w 3) w c.requires.region.tree r.top.at_is r.top.stands in
    let low = region_low c.requires.order r in
    let stores1 = counts_stores c.load-top.ensures.counts in
    let stores2 = stores_then 0 (omega arith) stores1 (looks_stores c.find_node-node.ensures.looks) in
    let stores3 = stores_then 0 (omega arith) stores2 (counts_stores c.load-before.ensures.counts) in
    room_after (9 * level_at v c.load-top.result) g.met.M.Look.limit_counts (omega (arith, level, low)) c.requires.room stores3

pub load-size-requires : goal.load-size-requires
load-size-requires g c = record { within = omega (arith, c.detach-top.ensures.as_long, ap length (c.load-before.ensures.image ∙ c.find_node-node.ensures.looks.image ∙ c.load-top.ensures.image), c.requires.region.region.as_long) }

pub overflow_sub-size : goal.overflow_sub-size
overflow_sub-size g c =
    let same = c.load-before.ensures.image ∙ c.find_node-node.ensures.looks.image ∙ c.load-top.ensures.image in
    let v = g.M.Look.shown.image c.load-before.new.self in
    let w = g.M.Look.shown.image c.args.space.now in
    let r = c.requires.region.region in
    let by = subst (λ a. DetachedBy c.args.order a c.args.key w (g.M.Look.shown.image c.detach-top.new.space) c.detach-top.result) c.load-top.ensures.word
    (subst (λ (x : List ℕ). DetachedBy c.args.order c.load-top.result c.args.key x (g.M.Look.shown.image c.detach-top.new.space) c.detach-top.result) same c.detach-top.ensures.detached) in
    let done = by c.requires.region.tree r.top in
    let f = (found_in c.requires.region.region (g.M.Look.shown.image c.load-top.new.self) c.load-top.result c.args.key c.find_node-node.result c.load-top.ensures.image c.load-top.ensures.word c.find_node-node.ensures.found) in
    omega (arith, c.load-size.ensures.word, size_kept c.requires.order r done, region_some c.args.key c.find_node-node.result r f c.if-node-eq0.false)

pub set_tree-requires-clause-sized : goal.set_tree-requires-clause-sized
set_tree-requires-clause-sized g c = ap length c.load-size.ensures.image ∙ c.detach-top.ensures.as_long ∙ ap length (c.load-before.ensures.image ∙ c.find_node-node.ensures.looks.image ∙ c.load-top.ensures.image) ∙ c.requires.region.region.as_long

pub set_tree-requires-clause-room : goal.set_tree-requires-clause-room
set_tree-requires-clause-room g c =
    let same = c.load-before.ensures.image ∙ c.find_node-node.ensures.looks.image ∙ c.load-top.ensures.image in
    let v = g.M.Look.shown.image c.load-before.new.self in
    let w = g.M.Look.shown.image c.args.space.now in
    let r = c.requires.region.region in
    let level : level_at v c.load-top.result ≡ height c.requires.region.tree = level_now w v c.load-top.result same c.load-top.ensures.word ∙ level_is c.args.order (slice_index w 3) w c.requires.region.tree r.top.at_is r.top.stands in
    let low = region_low c.requires.order r in
    let stores1 = counts_stores c.load-top.ensures.counts in
    let stores2 = stores_then 0 (omega arith) stores1 (looks_stores c.find_node-node.ensures.looks) in
    let stores3 = stores_then 0 (omega arith) stores2 (counts_stores c.load-before.ensures.counts) in
    let stores4 = stores_then 189 (omega (arith, level, low)) stores3 c.detach-top.ensures.stores in
    let stores5 = stores_then 189 (omega arith) stores4 (counts_stores c.load-size.ensures.counts) in
    room_after 2 g.met.M.Look.limit_counts (omega arith) c.requires.room stores5

pub give-requires-clause-sized : goal.give-requires-clause-sized
give-requires-clause-sized g c =
    let w2 = g.M.Look.shown.image c.load-size.new.self in
    omega (arith, ap length c.set_tree.ensures.image, length-set (slice_set w2 3 c.detach-top.result) 4 (c.load-size.result - 1), length-set w2 3 c.detach-top.result, ap length c.load-size.ensures.image, c.detach-top.ensures.as_long, ap length (c.load-before.ensures.image ∙ c.find_node-node.ensures.looks.image ∙ c.load-top.ensures.image), c.requires.region.region.as_long)

pub give-requires-clause-want : goal.give-requires-clause-want
give-requires-clause-want g c = omega (arith, c.requires.order.least)

pub give-requires-clause-taken : goal.give-requires-clause-taken
give-requires-clause-taken g c =
    let same = c.load-before.ensures.image ∙ c.find_node-node.ensures.looks.image ∙ c.load-top.ensures.image in
    let v = g.M.Look.shown.image c.load-before.new.self in
    let w = g.M.Look.shown.image c.args.space.now in
    let r = c.requires.region.region in
    let by = subst (λ a. DetachedBy c.args.order a c.args.key w (g.M.Look.shown.image c.detach-top.new.space) c.detach-top.result) c.load-top.ensures.word
    (subst (λ (x : List ℕ). DetachedBy c.args.order c.load-top.result c.args.key x (g.M.Look.shown.image c.detach-top.new.space) c.detach-top.result) same c.detach-top.ensures.detached) in
    let done = by c.requires.region.tree r.top in
    let image = c.set_tree.ensures.image ∙ ap (λ (x : List ℕ). slice_set (slice_set x 3 c.detach-top.result) 4 (c.load-size.result - 1)) c.load-size.ensures.image in
    let f = (found_in c.requires.region.region (g.M.Look.shown.image c.load-top.new.self) c.load-top.result c.args.key c.find_node-node.result c.load-top.ensures.image c.load-top.ensures.word c.find_node-node.ensures.found) in
    may_give c.requires.order r c.args.key c.find_node-node.result f c.if-node-eq0.false (c.load-size.result - 1) done image

pub give-requires-clause-room : goal.give-requires-clause-room
give-requires-clause-room g c =
    let same = c.load-before.ensures.image ∙ c.find_node-node.ensures.looks.image ∙ c.load-top.ensures.image in
    let v = g.M.Look.shown.image c.load-before.new.self in
    let w = g.M.Look.shown.image c.args.space.now in
    let r = c.requires.region.region in
    let level : level_at v c.load-top.result ≡ height c.requires.region.tree = level_now w v c.load-top.result same c.load-top.ensures.word ∙ level_is c.args.order (slice_index w 3) w c.requires.region.tree r.top.at_is r.top.stands in
    let low = region_low c.requires.order r in
    let stores1 = counts_stores c.load-top.ensures.counts in
    let stores2 = stores_then 0 (omega arith) stores1 (looks_stores c.find_node-node.ensures.looks) in
    let stores3 = stores_then 0 (omega arith) stores2 (counts_stores c.load-before.ensures.counts) in
    let stores4 = stores_then 189 (omega (arith, level, low)) stores3 c.detach-top.ensures.stores in
    let stores5 = stores_then 189 (omega arith) stores4 (counts_stores c.load-size.ensures.counts) in
    let stores6 = stores_then 191 (omega arith) stores5 (stores_most 2 (omega arith) c.set_tree.ensures.costs) in
    room_after (c.args.order + 1) g.met.M.Look.limit_counts (omega (arith, c.requires.order.most)) c.requires.room stores6

pub returns-clause-done : goal.returns-clause-done
returns-clause-done g c s k held =
    let same = c.load-before.ensures.image ∙ c.find_node-node.ensures.looks.image ∙ c.load-top.ensures.image in
    let v = g.M.Look.shown.image c.load-before.new.self in
    let w = g.M.Look.shown.image c.args.space.now in
    let r = held.1 in
    let by = subst (λ a. DetachedBy c.args.order a c.args.key w (g.M.Look.shown.image c.detach-top.new.space) c.detach-top.result) c.load-top.ensures.word
    (subst (λ (x : List ℕ). DetachedBy c.args.order c.load-top.result c.args.key x (g.M.Look.shown.image c.detach-top.new.space) c.detach-top.result) same c.detach-top.ensures.detached) in
    let done = by held.0 r.top in
    let image = c.set_tree.ensures.image ∙ ap (λ (x : List ℕ). slice_set (slice_set x 3 c.detach-top.result) 4 (c.load-size.result - 1)) c.load-size.ensures.image in
    let f = (found_in held.1 (g.M.Look.shown.image c.load-top.new.self) c.load-top.result c.args.key c.find_node-node.result c.load-top.ensures.image c.load-top.ensures.word c.find_node-node.ensures.found) in
    del_was c.requires.order r c.args.key c.find_node-node.result f c.if-node-eq0.false (c.load-size.result - 1) done image (g.M.Look.shown.image c.give.new.space) c.load-before.result
    (c.load-before.ensures.word ∙ ap (λ (x : List ℕ). slice_index x (c.find_node-node.result + 1)) (c.find_node-node.ensures.looks.image ∙ c.load-top.ensures.image)) (ap (λ m. m - 1) c.load-size.ensures.word) c.give.ensures.given c.give.ensures.others

pub returns-clause-stores : goal.returns-clause-stores
returns-clause-stores g c =
    let same = c.load-before.ensures.image ∙ c.find_node-node.ensures.looks.image ∙ c.load-top.ensures.image in
    let v = g.M.Look.shown.image c.load-before.new.self in
    let w = g.M.Look.shown.image c.args.space.now in
    let r = c.requires.region.region in
    let level : level_at v c.load-top.result ≡ height c.requires.region.tree = level_now w v c.load-top.result same c.load-top.ensures.word ∙ level_is c.args.order (slice_index w 3) w c.requires.region.tree r.top.at_is r.top.stands in
    let low = region_low c.requires.order r in
    let stores1 = counts_stores c.load-top.ensures.counts in
    let stores2 = stores_then 0 (omega arith) stores1 (looks_stores c.find_node-node.ensures.looks) in
    let stores3 = stores_then 0 (omega arith) stores2 (counts_stores c.load-before.ensures.counts) in
    let stores4 = stores_then 189 (omega (arith, level, low)) stores3 c.detach-top.ensures.stores in
    let stores5 = stores_then 189 (omega arith) stores4 (counts_stores c.load-size.ensures.counts) in
    let stores6 = stores_then 191 (omega arith) stores5 (stores_most 2 (omega arith) c.set_tree.ensures.costs) in
    stores_then 255 (omega (arith, c.requires.order.most)) stores6 (stores_most (c.args.order + 1) (omega arith) c.give.ensures.costs)
