use Rattle.std.proofs.Common.{◌+◌, List, refl, sym, subst, arith}
use Rattle.std.specs.Prelude.{slice_index}
use Rattle.rom_model.proofs.Nodes.{pow_small}
use Rattle.rom_heap.specs.declared.renew.node.Node.{Node}
use Rattle.rom_heap.proofs.Walking.{Collected, at_within, further}
use Rattle.rom_heap.proofs.renew.node.collect.Goals as goal

pub offset_bounds-words-at : goal.offset_bounds-words-at
offset_bounds-words-at c =
    let q = c.requires.bucket in
    omega (arith, at_within q.1 (c.loop-at.invariant q.0 q.1) c.loop-at-test.true, pow_small c.args.order c.requires.order.most)

pub bounds-words-at : goal.bounds-words-at
bounds-words-at c =
    let q = c.requires.bucket in
    omega (arith, at_within q.1 (c.loop-at.invariant q.0 q.1) c.loop-at-test.true, c.requires.sized)

pub overflow_add-at : goal.overflow_add-at
overflow_add-at c =
    let q = c.requires.bucket in
    omega (arith, at_within q.1 (c.loop-at.invariant q.0 q.1) c.loop-at-test.true, pow_small c.args.order c.requires.order.most)

pub offset_bounds-words-at-in-loop-at : goal.offset_bounds-words-at-in-loop-at
offset_bounds-words-at-in-loop-at c =
    let q = c.requires.bucket in
    omega (arith, at_within q.1 (c.loop-at.invariant q.0 q.1) c.loop-at-test.true, pow_small c.args.order c.requires.order.most)

pub bounds-words-at-in-loop-at : goal.bounds-words-at-in-loop-at
bounds-words-at-in-loop-at c =
    let q = c.requires.bucket in
    omega (arith, at_within q.1 (c.loop-at.invariant q.0 q.1) c.loop-at-test.true, c.requires.sized)

pub loop-at-preserved : goal.loop-at-preserved
loop-at-preserved c blocks is =
    let next = slice_index c.args.words.now (c.loop-at.at + 2) in
    let x = further is (c.loop-at.invariant blocks is) c.loop-at-test.true next refl in
    let P : List Node → Type 0 = λ ns. Collected c.args.order c.args.words.now blocks ns next in
    subst P (sym c.in_ok-push.ensures.items) x
