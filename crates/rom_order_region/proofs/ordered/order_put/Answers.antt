use Rattle.std.proofs.Common.{◌+◌, ◌-◌, ◌*◌, ◌^◌, ap, sym, ◌∙◌, arith, length, List, ℕ, subst}
use Rattle.std.specs.Prelude.{slice_index, slice_set}
use Rattle.rom_model.specs.Space.{ChangesOnly}
use Rattle.rom_model.specs.Blocks.{AreWords}
use Rattle.rom_model.proofs.Looks.{stores_most}
use Rattle.rom_order_region.specs.Tree.{blocks}
use Rattle.rom_order_region.specs.Nodes.{level_at}
use Rattle.rom_order_region.proofs.Room.{looks_stores, counts_stores, stores_then, room_after}
use Rattle.rom_order_region.proofs.Walked.{has_tree}
use Rattle.rom_order_region.proofs.Frame.{level_is}
use Rattle.rom_order_region.specs.Region.{taken_pairs}
use Rattle.rom_order_region.proofs.Pairs.{pairs_disjoint}
use Rattle.rom_order_region.proofs.Regions.{region_ordered, region_few, region_low}
use Rattle.rom_order_region.proofs.Asked.{region_small, tree_read, found_in}
use Rattle.rom_order_region.proofs.Putting.{put_was, put_full, put_new, pair, at_is, is_attach, size_now}
use Rattle.rom_order_region.proofs.ordered.order_put.Goals as goal

pub load-top-requires : goal.load-top-requires
load-top-requires g c = record { within = omega (arith, c.requires.region.region.as_long) }

pub find_node-node-requires-clause-sized : goal.find_node-node-requires-clause-sized
find_node-node-requires-clause-sized g c = ap length c.load-top.ensures.image ∙ c.requires.region.region.as_long

pub find_node-node-requires-clause-tree : goal.find_node-node-requires-clause-tree
find_node-node-requires-clause-tree g c = has_tree (tree_read (g.M.Look.shown.image c.args.space.now) (g.M.Look.shown.image c.load-top.new.self) c.load-top.result c.load-top.ensures.image c.load-top.ensures.word (region_ordered c.requires.region.region))

pub overflow_add-node : goal.overflow_add-node
overflow_add-node g c = omega (arith, c.find_node-node.ensures.within c.if-node-ne0.true, ap length c.load-top.ensures.image, c.requires.region.region.as_long, region_small c.args.order c.requires.order)

pub load-before-requires : goal.load-before-requires
load-before-requires g c = record { within = omega (arith, c.find_node-node.ensures.within c.if-node-ne0.true, ap length c.find_node-node.ensures.looks.image) }

pub store_changed-requires-clause-within : goal.store_changed-requires-clause-within
store_changed-requires-clause-within g c = omega (arith, c.find_node-node.ensures.within c.if-node-ne0.true, ap length c.find_node-node.ensures.looks.image, ap length c.load-before.ensures.image)

pub store_changed-requires-clause-room : goal.store_changed-requires-clause-room
store_changed-requires-clause-room g c =
    let stores1 = counts_stores c.load-top.ensures.counts in
    let stores2 = stores_then 0 (omega arith) stores1 (looks_stores c.find_node-node.ensures.looks) in
    room_after 1 g.met.M.Look.limit_counts (omega arith) c.requires.room (stores_then 0 (omega arith) stores2 (counts_stores c.load-before.ensures.counts))

pub returns-then-node-ne0-clause-done : goal.returns-then-node-ne0-clause-done
returns-then-node-ne0-clause-done g c s k held =
    let seen = c.find_node-node.ensures.looks.image ∙ c.load-top.ensures.image in
    put_was c.requires.order held.1 c.args.key c.args.value c.find_node-node.result c.load-before.result (found_in held.1 (g.M.Look.shown.image c.load-top.new.self) c.load-top.result c.args.key c.find_node-node.result c.load-top.ensures.image c.load-top.ensures.word c.find_node-node.ensures.found) c.if-node-ne0.true
    (c.load-before.ensures.word ∙ ap (λ (x : List ℕ). slice_index x (c.find_node-node.result + 1)) seen) (g.M.Look.shown.image c.store_changed.new.space)
    (c.store_changed.ensures.image ∙ ap (λ (x : List ℕ). slice_set x (c.find_node-node.result + 1) c.args.value) (c.load-before.ensures.image ∙ seen))

pub returns-then-node-ne0-clause-stores : goal.returns-then-node-ne0-clause-stores
returns-then-node-ne0-clause-stores g c =
    let stores1 = counts_stores c.load-top.ensures.counts in
    let stores2 = stores_then 0 (omega arith) stores1 (looks_stores c.find_node-node.ensures.looks) in
    let stores3 = stores_then 0 (omega arith) stores2 (counts_stores c.load-before.ensures.counts) in
    stores_then 255 (omega arith) stores3 (stores_most 1 (omega arith) c.store_changed.ensures.costs)

pub take-requires-clause-sized : goal.take-requires-clause-sized
take-requires-clause-sized g c = ap length (c.find_node-node.ensures.looks.image ∙ c.load-top.ensures.image) ∙ c.requires.region.region.as_long

pub take-requires-clause-want : goal.take-requires-clause-want
take-requires-clause-want g c = omega (arith, c.requires.order.least)

pub take-requires-clause-blocks : goal.take-requires-clause-blocks
take-requires-clause-blocks g c =
    let r = c.requires.region in
    let taken = taken_pairs c.args.order (blocks r.tree) in
    (taken, pairs_disjoint (blocks r.tree) c.requires.order r.region.top.apart, subst (λ (x : List ℕ). AreWords c.args.order taken x) (sym (c.find_node-node.ensures.looks.image ∙ c.load-top.ensures.image)) r.region.tree)

pub take-requires-clause-room : goal.take-requires-clause-room
take-requires-clause-room g c =
    let stores1 = counts_stores c.load-top.ensures.counts in
    let stores2 = stores_then 0 (omega arith) stores1 (looks_stores c.find_node-node.ensures.looks) in
    room_after (c.args.order + 1) g.met.M.Look.limit_counts (omega (arith, c.requires.order.most)) c.requires.room stores2

pub returns-in_default-clause-done : goal.returns-in_default-clause-done
returns-in_default-clause-done g c s k held =
    let seen = c.find_node-node.ensures.looks.image ∙ c.load-top.ensures.image in
    let taken = taken_pairs c.args.order (blocks held.0) in
    put_full c.requires.order held.1 c.args.key c.args.value c.find_node-node.result (found_in held.1 (g.M.Look.shown.image c.load-top.new.self) c.load-top.result c.args.key c.find_node-node.result c.load-top.ensures.image c.load-top.ensures.word c.find_node-node.ensures.found) c.if-node-ne0.false (g.M.Look.shown.image c.take.new.space) (c.in_default.ensures.none.image ∙ seen)
    (c.in_default.ensures.taken taken (pairs_disjoint (blocks held.0) c.requires.order held.1.top.apart) (subst (λ (x : List ℕ). AreWords c.args.order taken x) (sym seen) held.1.tree))

pub returns-in_default-clause-stores : goal.returns-in_default-clause-stores
returns-in_default-clause-stores g c =
    let stores1 = counts_stores c.load-top.ensures.counts in
    let stores2 = stores_then 0 (omega arith) stores1 (looks_stores c.find_node-node.ensures.looks) in
    stores_then 255 (omega arith) stores2 (looks_stores c.in_default.ensures.none)

pub fill_single-requires-clause-sized : goal.fill_single-requires-clause-sized
fill_single-requires-clause-sized g c = c.in-Some.ensures.others.as_long ∙ ap length (c.find_node-node.ensures.looks.image ∙ c.load-top.ensures.image) ∙ c.requires.region.region.as_long

pub fill_single-requires-clause-block : goal.fill_single-requires-clause-block
fill_single-requires-clause-block g c =
    let seen = c.find_node-node.ensures.looks.image ∙ c.load-top.ensures.image in
    let taken = taken_pairs c.args.order (blocks c.requires.region.tree) in
    let only = subst (λ (x : List ℕ). ChangesOnly 17 (2 * 2 ^ c.args.order - 1) x (g.M.Look.shown.image c.take.new.space)) seen c.in-Some.ensures.others in
    let takes = c.in-Some.ensures.taken taken (pairs_disjoint (blocks c.requires.region.tree) c.requires.order c.requires.region.region.top.apart) (subst (λ (x : List ℕ). AreWords c.args.order taken x) (sym seen) c.requires.region.region.tree) in
    let f = (found_in c.requires.region.region (g.M.Look.shown.image c.load-top.new.self) c.load-top.result c.args.key c.find_node-node.result c.load-top.ensures.image c.load-top.ensures.word c.find_node-node.ensures.found) in
    let p = pair c.requires.order c.requires.region.region c.args.key c.args.value c.find_node-node.result f c.if-node-ne0.false only takes in
    (p.block, at_is c.requires.order c.requires.region.region c.args.key c.args.value c.find_node-node.result f c.if-node-ne0.false only takes, p.most)

pub fill_single-requires-clause-room : goal.fill_single-requires-clause-room
fill_single-requires-clause-room g c =
    let stores1 = counts_stores c.load-top.ensures.counts in
    let stores2 = stores_then 0 (omega arith) stores1 (looks_stores c.find_node-node.ensures.looks) in
    let stores3 = stores_then 17 (omega (arith, c.requires.order.most)) stores2 (stores_most (c.args.order + 1) (omega arith) c.in-Some.ensures.costs) in
    room_after 8 g.met.M.Look.limit_counts (omega arith) c.requires.room stores3

pub attach-top-requires-clause-sized : goal.attach-top-requires-clause-sized
attach-top-requires-clause-sized g c = c.fill_single.ensures.as_long ∙ c.in-Some.ensures.others.as_long ∙ ap length (c.find_node-node.ensures.looks.image ∙ c.load-top.ensures.image) ∙ c.requires.region.region.as_long

pub attach-top-requires-clause-may : goal.attach-top-requires-clause-may
attach-top-requires-clause-may g c =
    let seen = c.find_node-node.ensures.looks.image ∙ c.load-top.ensures.image in
    let taken = taken_pairs c.args.order (blocks c.requires.region.tree) in
    let only = subst (λ (x : List ℕ). ChangesOnly 17 (2 * 2 ^ c.args.order - 1) x (g.M.Look.shown.image c.take.new.space)) seen c.in-Some.ensures.others in
    let takes = c.in-Some.ensures.taken taken (pairs_disjoint (blocks c.requires.region.tree) c.requires.order c.requires.region.region.top.apart) (subst (λ (x : List ℕ). AreWords c.args.order taken x) (sym seen) c.requires.region.region.tree) in
    let f = (found_in c.requires.region.region (g.M.Look.shown.image c.load-top.new.self) c.load-top.result c.args.key c.find_node-node.result c.load-top.ensures.image c.load-top.ensures.word c.find_node-node.ensures.found) in
    let r = c.requires.region.region in
    let p = pair c.requires.order r c.args.key c.args.value c.find_node-node.result f c.if-node-ne0.false only takes in
    let here = at_is c.requires.order r c.args.key c.args.value c.find_node-node.result f c.if-node-ne0.false only takes in
    record { block = p.block; value = c.args.value; tree = c.requires.region.tree; is = is_attach c.requires.order r c.args.key c.args.value c.find_node-node.result f c.if-node-ne0.false only takes (c.fill_single.ensures.filled p.block here p.most) c.load-top.result c.load-top.ensures.word }

pub attach-top-requires-clause-room : goal.attach-top-requires-clause-room
attach-top-requires-clause-room g c =
    let seen = c.find_node-node.ensures.looks.image ∙ c.load-top.ensures.image in
    let r = c.requires.region.region in
    let taken = taken_pairs c.args.order (blocks c.requires.region.tree) in
    let only = subst (λ (x : List ℕ). ChangesOnly 17 (2 * 2 ^ c.args.order - 1) x (g.M.Look.shown.image c.take.new.space)) seen c.in-Some.ensures.others in
    let takes = c.in-Some.ensures.taken taken (pairs_disjoint (blocks c.requires.region.tree) c.requires.order r.top.apart) (subst (λ (x : List ℕ). AreWords c.args.order taken x) (sym seen) r.tree) in
    let f = (found_in c.requires.region.region (g.M.Look.shown.image c.load-top.new.self) c.load-top.result c.args.key c.find_node-node.result c.load-top.ensures.image c.load-top.ensures.word c.find_node-node.ensures.found) in
    let here = at_is c.requires.order r c.args.key c.args.value c.find_node-node.result f c.if-node-ne0.false only takes in
    let p = pair c.requires.order r c.args.key c.args.value c.find_node-node.result f c.if-node-ne0.false only takes in
    let filled = c.fill_single.ensures.filled p.block here p.most in
    let attach = is_attach c.requires.order r c.args.key c.args.value c.find_node-node.result f c.if-node-ne0.false only takes filled c.load-top.result c.load-top.ensures.word in
    let level = level_is c.args.order c.load-top.result (g.M.Look.shown.image c.fill_single.new.space) c.requires.region.tree attach.top_is attach.stands in
    let low = region_low c.requires.order r in
    let stores1 = counts_stores c.load-top.ensures.counts in
    let stores2 = stores_then 0 (omega arith) stores1 (looks_stores c.find_node-node.ensures.looks) in
    let stores3 = stores_then 17 (omega (arith, c.requires.order.most)) stores2 (stores_most (c.args.order + 1) (omega arith) c.in-Some.ensures.costs) in
    let stores4 = stores_then 25 (omega arith) stores3 (stores_most 8 (omega arith) c.fill_single.ensures.costs) in
    room_after (9 * level_at (g.M.Look.shown.image c.fill_single.new.space) c.load-top.result) g.met.M.Look.limit_counts (omega (arith, level, low)) c.requires.room stores4

pub load-size-requires : goal.load-size-requires
load-size-requires g c = record { within = omega (arith, c.attach-top.ensures.as_long, c.fill_single.ensures.as_long, c.in-Some.ensures.others.as_long, ap length (c.find_node-node.ensures.looks.image ∙ c.load-top.ensures.image), c.requires.region.region.as_long) }

pub overflow_add-size : goal.overflow_add-size
overflow_add-size g c =
    let seen = c.find_node-node.ensures.looks.image ∙ c.load-top.ensures.image in
    let r = c.requires.region.region in
    let taken = taken_pairs c.args.order (blocks c.requires.region.tree) in
    let only = subst (λ (x : List ℕ). ChangesOnly 17 (2 * 2 ^ c.args.order - 1) x (g.M.Look.shown.image c.take.new.space)) seen c.in-Some.ensures.others in
    let takes = c.in-Some.ensures.taken taken (pairs_disjoint (blocks c.requires.region.tree) c.requires.order r.top.apart) (subst (λ (x : List ℕ). AreWords c.args.order taken x) (sym seen) r.tree) in
    let f = (found_in c.requires.region.region (g.M.Look.shown.image c.load-top.new.self) c.load-top.result c.args.key c.find_node-node.result c.load-top.ensures.image c.load-top.ensures.word c.find_node-node.ensures.found) in
    let here = at_is c.requires.order r c.args.key c.args.value c.find_node-node.result f c.if-node-ne0.false only takes in
    let p = pair c.requires.order r c.args.key c.args.value c.find_node-node.result f c.if-node-ne0.false only takes in
    let filled = c.fill_single.ensures.filled p.block here p.most in
    let attach = is_attach c.requires.order r c.args.key c.args.value c.find_node-node.result f c.if-node-ne0.false only takes filled c.load-top.result c.load-top.ensures.word in
    let level = level_is c.args.order c.load-top.result (g.M.Look.shown.image c.fill_single.new.space) c.requires.region.tree attach.top_is attach.stands in
    let low = region_low c.requires.order r in
    let done = c.attach-top.ensures.attached p.block c.args.value c.requires.region.tree attach in
    let size = size_now c.requires.order r c.args.key c.args.value c.find_node-node.result f c.if-node-ne0.false only takes filled done in
    omega (arith, c.load-size.ensures.word, size, region_few c.requires.order r)

pub set_tree-requires-clause-sized : goal.set_tree-requires-clause-sized
set_tree-requires-clause-sized g c = ap length c.load-size.ensures.image ∙ c.attach-top.ensures.as_long ∙ c.fill_single.ensures.as_long ∙ c.in-Some.ensures.others.as_long ∙ ap length (c.find_node-node.ensures.looks.image ∙ c.load-top.ensures.image) ∙ c.requires.region.region.as_long

pub set_tree-requires-clause-room : goal.set_tree-requires-clause-room
set_tree-requires-clause-room g c =
    let seen = c.find_node-node.ensures.looks.image ∙ c.load-top.ensures.image in
    let r = c.requires.region.region in
    let taken = taken_pairs c.args.order (blocks c.requires.region.tree) in
    let only = subst (λ (x : List ℕ). ChangesOnly 17 (2 * 2 ^ c.args.order - 1) x (g.M.Look.shown.image c.take.new.space)) seen c.in-Some.ensures.others in
    let takes = c.in-Some.ensures.taken taken (pairs_disjoint (blocks c.requires.region.tree) c.requires.order r.top.apart) (subst (λ (x : List ℕ). AreWords c.args.order taken x) (sym seen) r.tree) in
    let f = (found_in c.requires.region.region (g.M.Look.shown.image c.load-top.new.self) c.load-top.result c.args.key c.find_node-node.result c.load-top.ensures.image c.load-top.ensures.word c.find_node-node.ensures.found) in
    let here = at_is c.requires.order r c.args.key c.args.value c.find_node-node.result f c.if-node-ne0.false only takes in
    let p = pair c.requires.order r c.args.key c.args.value c.find_node-node.result f c.if-node-ne0.false only takes in
    let filled = c.fill_single.ensures.filled p.block here p.most in
    let attach = is_attach c.requires.order r c.args.key c.args.value c.find_node-node.result f c.if-node-ne0.false only takes filled c.load-top.result c.load-top.ensures.word in
    let level = level_is c.args.order c.load-top.result (g.M.Look.shown.image c.fill_single.new.space) c.requires.region.tree attach.top_is attach.stands in
    let low = region_low c.requires.order r in
    let stores1 = counts_stores c.load-top.ensures.counts in
    let stores2 = stores_then 0 (omega arith) stores1 (looks_stores c.find_node-node.ensures.looks) in
    let stores3 = stores_then 17 (omega (arith, c.requires.order.most)) stores2 (stores_most (c.args.order + 1) (omega arith) c.in-Some.ensures.costs) in
    let stores4 = stores_then 25 (omega arith) stores3 (stores_most 8 (omega arith) c.fill_single.ensures.costs) in
    let stores5 = stores_then 214 (omega (arith, level, low)) stores4 c.attach-top.ensures.stores in
    let stores6 = stores_then 214 (omega arith) stores5 (counts_stores c.load-size.ensures.counts) in
    room_after 2 g.met.M.Look.limit_counts (omega arith) c.requires.room stores6

pub returns-clause-done : goal.returns-clause-done
returns-clause-done g c s k held =
    let seen = c.find_node-node.ensures.looks.image ∙ c.load-top.ensures.image in
    let taken = taken_pairs c.args.order (blocks held.0) in
    let only = subst (λ (x : List ℕ). ChangesOnly 17 (2 * 2 ^ c.args.order - 1) x (g.M.Look.shown.image c.take.new.space)) seen c.in-Some.ensures.others in
    let takes = c.in-Some.ensures.taken taken (pairs_disjoint (blocks held.0) c.requires.order held.1.top.apart) (subst (λ (x : List ℕ). AreWords c.args.order taken x) (sym seen) held.1.tree) in
    let f = (found_in held.1 (g.M.Look.shown.image c.load-top.new.self) c.load-top.result c.args.key c.find_node-node.result c.load-top.ensures.image c.load-top.ensures.word c.find_node-node.ensures.found) in
    let here = at_is c.requires.order held.1 c.args.key c.args.value c.find_node-node.result f c.if-node-ne0.false only takes in
    let p = pair c.requires.order held.1 c.args.key c.args.value c.find_node-node.result f c.if-node-ne0.false only takes in
    let filled = c.fill_single.ensures.filled p.block here p.most in
    let done = c.attach-top.ensures.attached p.block c.args.value held.0 (is_attach c.requires.order held.1 c.args.key c.args.value c.find_node-node.result f c.if-node-ne0.false only takes filled c.load-top.result c.load-top.ensures.word) in
    put_new c.requires.order held.1 c.args.key c.args.value c.find_node-node.result f c.if-node-ne0.false only takes filled done (g.M.Look.shown.image c.set_tree.new.space) c.load-size.result c.load-size.ensures.word
    (c.set_tree.ensures.image ∙ ap (λ (x : List ℕ). slice_set (slice_set x 3 c.attach-top.result) 4 (c.load-size.result + 1)) c.load-size.ensures.image)

pub returns-clause-stores : goal.returns-clause-stores
returns-clause-stores g c =
    let seen = c.find_node-node.ensures.looks.image ∙ c.load-top.ensures.image in
    let r = c.requires.region.region in
    let taken = taken_pairs c.args.order (blocks c.requires.region.tree) in
    let only = subst (λ (x : List ℕ). ChangesOnly 17 (2 * 2 ^ c.args.order - 1) x (g.M.Look.shown.image c.take.new.space)) seen c.in-Some.ensures.others in
    let takes = c.in-Some.ensures.taken taken (pairs_disjoint (blocks c.requires.region.tree) c.requires.order r.top.apart) (subst (λ (x : List ℕ). AreWords c.args.order taken x) (sym seen) r.tree) in
    let f = (found_in c.requires.region.region (g.M.Look.shown.image c.load-top.new.self) c.load-top.result c.args.key c.find_node-node.result c.load-top.ensures.image c.load-top.ensures.word c.find_node-node.ensures.found) in
    let here = at_is c.requires.order r c.args.key c.args.value c.find_node-node.result f c.if-node-ne0.false only takes in
    let p = pair c.requires.order r c.args.key c.args.value c.find_node-node.result f c.if-node-ne0.false only takes in
    let filled = c.fill_single.ensures.filled p.block here p.most in
    let attach = is_attach c.requires.order r c.args.key c.args.value c.find_node-node.result f c.if-node-ne0.false only takes filled c.load-top.result c.load-top.ensures.word in
    let level = level_is c.args.order c.load-top.result (g.M.Look.shown.image c.fill_single.new.space) c.requires.region.tree attach.top_is attach.stands in
    let low = region_low c.requires.order r in
    let stores1 = counts_stores c.load-top.ensures.counts in
    let stores2 = stores_then 0 (omega arith) stores1 (looks_stores c.find_node-node.ensures.looks) in
    let stores3 = stores_then 17 (omega (arith, c.requires.order.most)) stores2 (stores_most (c.args.order + 1) (omega arith) c.in-Some.ensures.costs) in
    let stores4 = stores_then 25 (omega arith) stores3 (stores_most 8 (omega arith) c.fill_single.ensures.costs) in
    let stores5 = stores_then 214 (omega (arith, level, low)) stores4 c.attach-top.ensures.stores in
    let stores6 = stores_then 214 (omega arith) stores5 (counts_stores c.load-size.ensures.counts) in
    stores_then 255 (omega arith) stores6 (stores_most 2 (omega arith) c.set_tree.ensures.costs)
