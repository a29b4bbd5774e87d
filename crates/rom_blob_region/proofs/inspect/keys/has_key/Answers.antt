use Rattle.std.proofs.Common.{◌≡◌, ◌+◌, ◌-◌, sym, ap, arith, length}
use Rattle.rom_model.proofs.Nodes.{pow_small}
use Rattle.rom_blob_region.proofs.Ways.{next_of, key_stands, key_differs}
use Rattle.rom_blob_region.proofs.inspect.keys.has_key.Goals as goal

pub offset_bounds-region-node : goal.offset_bounds-region-node
offset_bounds-region-node c =
    let way = c.requires.way in
    let left = c.loop-passed.invariant.1 way.0 way.1 way.2 in
    let next = next_of c.args.order c.args.region.now c.loop-passed.at left.0 (omega (arith, left.2, c.loop-passed-test.true)) left.1 in
    omega (arith, next.here, next.inside, pow_small c.args.order c.requires.order.most)

pub bounds-region-node : goal.bounds-region-node
bounds-region-node c =
    let way = c.requires.way in
    let left = c.loop-passed.invariant.1 way.0 way.1 way.2 in
    let next = next_of c.args.order c.args.region.now c.loop-passed.at left.0 (omega (arith, left.2, c.loop-passed-test.true)) left.1 in
    omega (arith, next.here, next.inside, c.requires.sized)

pub returns-then-region-node : goal.returns-then-region-node
returns-then-region-node c units way long =
    let left = c.loop-passed.invariant.1 units way long in
    let next = next_of c.args.order c.args.region.now c.loop-passed.at left.0 (omega (arith, left.2, c.loop-passed-test.true)) left.1 in
    sym (key_stands c.args.order c.args.region.now c.loop-passed.at left.0 c.args.key _ next left.3 c.if-region-node.true)

pub overflow_add-at : goal.overflow_add-at
overflow_add-at c =
    let way = c.requires.way in
    let left = c.loop-passed.invariant.1 way.0 way.1 way.2 in
    let next = next_of c.args.order c.args.region.now c.loop-passed.at left.0 (omega (arith, left.2, c.loop-passed-test.true)) left.1 in
    omega (arith, next.here, next.inside, pow_small c.args.order c.requires.order.most)

pub loop-passed-preserved : goal.loop-passed-preserved
loop-passed-preserved c =
    let way = c.requires.way in
    let first = c.loop-passed.invariant.1 way.0 way.1 way.2 in
    let at = next_of c.args.order c.args.region.now c.loop-passed.at first.0 (omega (arith, first.2, c.loop-passed-test.true)) first.1 in (
      omega (arith, at.here, at.inside, c.requires.sized),
      λ units way long.
          let left = c.loop-passed.invariant.1 units way long in
          let next = next_of c.args.order c.args.region.now c.loop-passed.at left.0 (omega (arith, left.2, c.loop-passed-test.true)) left.1 in (
            next.more,
            next.way,
            (let e : c.args.count - (c.loop-passed._passed + 1) ≡ length next.more = omega (arith, left.2, ap length next.are) in e),
            key_differs c.args.order c.args.region.now c.loop-passed.at left.0 c.args.key _ next left.3 c.if-region-node.false,
          ),
    )
