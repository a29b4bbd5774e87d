use Rattle.std.proofs.Common.{[], ◌∷◌, ◌++◌}
use Rattle.rom_model.specs.Region.{element_blocks, taken_by, Contents}
use Rattle.rom_model.proofs.Room.{region_disjoint, full}
use Rattle.rom_queue.specs.Queue.{with_last, with_queue_blocks}
use Rattle.rom_block.proofs.Apart.{sparing_then, tree_apart}
use Rattle.rom_queue.proofs.Taking.{had_room, may_take, became}
use Rattle.rom_queue.proofs.queue.queue_push.Goals as goal

pub take-requires-clause-blocks : goal.take-requires-clause-blocks
take-requires-clause-blocks g c =
    let r = c.requires.region in
    let held : Contents c.args.order (g.M.Look.shown.image c.args.space.now) r.state r.count = r.contents in
    (taken_by c.args.order (element_blocks c.args.order held.0), region_disjoint c.requires.order.least held.1, held.1.shape.tree)

pub returns-in_default-clause-had_room : goal.returns-in_default-clause-had_room
returns-in_default-clause-had_room g c s k held =
    full c.requires.order.least held.1 (c.in_default.ensures.taken (taken_by c.args.order (element_blocks c.args.order held.0)) (region_disjoint c.requires.order.least held.1) held.1.shape.tree)

pub append-requires-clause-queue : goal.append-requires-clause-queue
append-requires-clause-queue g c =
    let r = c.requires.region in
    let held : Contents c.args.order (g.M.Look.shown.image c.args.space.now) r.state r.count = r.contents in
    may_take c.requires.order.least held.1 c.in-Some.ensures.others c.in-Some.ensures.taken

pub returns-clause-had_room : goal.returns-clause-had_room
returns-clause-had_room g c s k held = had_room c.requires.order.least held.1 c.in-Some.ensures.others c.in-Some.ensures.taken

pub returns-clause-others : goal.returns-clause-others
returns-clause-others g c s k held =
    let le = c.requires.order.least in
    let take = c.in-Some.ensures in
    became le held.1 take.others take.taken (g.M.Look.shown.image c.append.new.space) c.args.value (c.append.ensures.appended (may_take le held.1 take.others take.taken))

pub returns-clause-contents : goal.returns-clause-contents
returns-clause-contents g c s k held = let b = returns-clause-others g c s k held in (with_queue_blocks held.0 (held.0.queue ++ b.block ∷ []), b.becomes.region)

pub returns-clause-region : goal.returns-clause-region
returns-clause-region g c =
    let r = c.requires.region in
    record { state = with_last r.state c.args.value; count = r.count; contents = returns-clause-contents g c r.state r.count r.contents }

pub returns-clause-sparing : goal.returns-clause-sparing
returns-clause-sparing g c =
    let r = c.requires.region in
    let held : Contents c.args.order (g.M.Look.shown.image c.args.space.now) r.state r.count = r.contents in
    let take = c.in-Some.ensures in
    let appended = c.append.ensures.appended (may_take c.requires.order.least held.1 take.others take.taken) in
    sparing_then g.M.Look.shown c.args.space.now _ c.append.new.space take.others.as_long appended.others.as_long (tree_apart c.args.order _ _ _ _ take.others appended.tree) take.sparing c.append.ensures.sparing
