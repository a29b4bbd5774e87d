use Rattle.std.proofs.Common.{sym, arith}
use Rattle.rom_model.proofs.Nodes.{pow_small}
use Rattle.rom_heap.proofs.Earlier.{at_link, node_is, key_stands, key_differs}
use Rattle.rom_heap.proofs.inspect.keys.has_key.Goals as goal

pub offset_bounds-region-link : goal.offset_bounds-region-link
offset_bounds-region-link c =
    let r = c.requires.reached in
    omega (arith, pow_small c.args.order c.requires.order.most, at_link c.args.order c.args.region.now c.args.number r.0 r.1 c.args.count c.loop-passed._passed c.loop-passed.link c.args.key c.requires.order.least c.requires.number r.2 r.3 c.loop-passed-test.true (c.loop-passed.invariant r.0 r.1 r.2 r.3).0)

pub bounds-region-link : goal.bounds-region-link
bounds-region-link c =
    let r = c.requires.reached in
    omega (arith, at_link c.args.order c.args.region.now c.args.number r.0 r.1 c.args.count c.loop-passed._passed c.loop-passed.link c.args.key c.requires.order.least c.requires.number r.2 r.3 c.loop-passed-test.true (c.loop-passed.invariant r.0 r.1 r.2 r.3).0)

pub offset_bounds-region-node : goal.offset_bounds-region-node
offset_bounds-region-node c =
    let r = c.requires.reached in
    let x = node_is c.args.order c.args.region.now c.args.number r.0 r.1 c.args.count c.loop-passed._passed c.loop-passed.link c.args.key c.requires.order.least c.requires.number r.2 r.3 c.loop-passed-test.true (c.loop-passed.invariant r.0 r.1 r.2 r.3).0 in
    omega (arith, x.1, x.2, pow_small c.args.order c.requires.order.most)

pub bounds-region-node : goal.bounds-region-node
bounds-region-node c =
    let r = c.requires.reached in
    let x = node_is c.args.order c.args.region.now c.args.number r.0 r.1 c.args.count c.loop-passed._passed c.loop-passed.link c.args.key c.requires.order.least c.requires.number r.2 r.3 c.loop-passed-test.true (c.loop-passed.invariant r.0 r.1 r.2 r.3).0 in
    omega (arith, x.1, x.2)

pub returns-then-region-node : goal.returns-then-region-node
returns-then-region-node c seen before f long =
    sym (key_stands c.args.order c.args.region.now c.args.number seen before c.args.count c.loop-passed._passed c.loop-passed.link c.args.key c.requires.order.least c.requires.number f long c.loop-passed-test.true (c.loop-passed.invariant seen before f long).0 c.if-region-node.true)

pub overflow_add-link-in-loop-passed : goal.overflow_add-link-in-loop-passed
overflow_add-link-in-loop-passed c =
    let r = c.requires.reached in
    let x = node_is c.args.order c.args.region.now c.args.number r.0 r.1 c.args.count c.loop-passed._passed c.loop-passed.link c.args.key c.requires.order.least c.requires.number r.2 r.3 c.loop-passed-test.true (c.loop-passed.invariant r.0 r.1 r.2 r.3).0 in
    omega (arith, x.1, x.2, pow_small c.args.order c.requires.order.most)

pub loop-passed-preserved : goal.loop-passed-preserved
loop-passed-preserved c seen before f long =
    let was = c.loop-passed.invariant seen before f long in
    key_differs c.args.order c.args.region.now c.args.number seen before c.args.count c.loop-passed._passed c.loop-passed.link c.args.key c.requires.order.least c.requires.number f long c.loop-passed-test.true was.0 c.if-region-node.false was.1
