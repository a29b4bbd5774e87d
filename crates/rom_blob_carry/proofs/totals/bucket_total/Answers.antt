use Rattle.std.proofs.Common.{◌≡◌, ◌+◌, ◌^◌, ◌<◌, slice_index, refl, arith, ap, ◌∙◌}
use Rattle.rom_model.proofs.Nodes.{pow_small}
use Rattle.rom_bucket.specs.Walk.{head_of}
use Rattle.rom_bucket.proofs.Heads.{head_within}
use Rattle.rom_bucket.proofs.Walking.{node_within, falls, first, further}
use Rattle.rom_blob_region.specs.Region.{len_at}
use Rattle.rom_blob_carry.specs.Sizes.{amount, counted_at}
use Rattle.rom_blob_carry.proofs.Walks.{at_start, next_sum, next_long}
use Rattle.rom_blob_carry.proofs.totals.bucket_total.Goals as goal

pub bounds-words-blocks_at : goal.bounds-words-blocks_at
bounds-words-blocks_at c = omega (arith, head_within c.args.order c.args.number c.requires.order.least c.requires.number, c.blocks_at.ensures.is, c.requires.sized)

pub loop-node-init : goal.loop-node-init
loop-node-init c blocks is =
    let here : c.blocks_at.result + c.args.number ≡ head_of c.args.order c.args.number = omega (arith, c.blocks_at.ensures.is) in
    (at_start c.args.number (c.blocks_at.result + c.args.number) (slice_index c.args.words.now (c.blocks_at.result + c.args.number)) is here (λ i. slice_index c.args.words.now (c.blocks_at.result + c.args.number)), refl, omega arith)

pub offset_bounds-words-node : goal.offset_bounds-words-node
offset_bounds-words-node c =
    let q = c.requires.bucket in
    omega (arith, node_within (c.loop-node.invariant q.blocks q.are).0 c.loop-node-test.true q.within, pow_small c.args.order c.requires.order.most)

pub bounds-words-node : goal.bounds-words-node
bounds-words-node c =
    let q = c.requires.bucket in
    omega (arith, node_within (c.loop-node.invariant q.blocks q.are).0 c.loop-node-test.true q.within, c.requires.sized)

pub overflow_add-node-in-loop-node-2 : goal.overflow_add-node-in-loop-node-2
overflow_add-node-in-loop-node-2 c =
    let q = c.requires.bucket in
    omega (arith, node_within (c.loop-node.invariant q.blocks q.are).0 c.loop-node-test.true q.within, pow_small c.args.order c.requires.order.most)

pub offset_bounds-words-node-in-loop-node : goal.offset_bounds-words-node-in-loop-node
offset_bounds-words-node-in-loop-node c =
    let q = c.requires.bucket in
    omega (arith, node_within (c.loop-node.invariant q.blocks q.are).0 c.loop-node-test.true q.within, pow_small c.args.order c.requires.order.most)

pub bounds-words-node-in-loop-node : goal.bounds-words-node-in-loop-node
bounds-words-node-in-loop-node c =
    let q = c.requires.bucket in
    omega (arith, node_within (c.loop-node.invariant q.blocks q.are).0 c.loop-node-test.true q.within, c.requires.sized)

pub loop-node-smaller : goal.loop-node-smaller
loop-node-smaller c =
    let q = c.requires.bucket in
    falls (c.loop-node.invariant q.blocks q.are).0 c.loop-node-test.true (2 ^ c.args.order) (slice_index c.args.words.now (c.loop-node.node + 2)) q.few (λ i. slice_index c.args.words.now (c.loop-node.node + 2))

pub loop-node-preserved : goal.loop-node-preserved
loop-node-preserved c blocks is =
    let n = c.args.order in
    let w = c.args.words.now in
    let x = c.loop-node.invariant blocks is in
    let some = c.loop-node-test.true in
    let next = slice_index w (c.loop-node.node + 2) in
    let len : slice_index w (c.loop-node.node + 1) ≡ len_at n w (first x.0 some).block = ap (λ at. slice_index w (at + 1)) (first x.0 some).here in
    let value : c.from-total.result ≡ counted_at c.args.measure n w (first x.0 some).block = c.from-total.ensures ∙ c.of.ensures ∙ ap (amount c.args.measure) len in
    let long = next_long x.0 some next (λ i. next) in
    let small : c.from-total.result < 2 ^ 64 = omega arith in
    (further x.0 some next (λ i. next), next_sum x.0 some next (λ i. next) (counted_at c.args.measure n w) c.loop-node.total c.from-total.result x.1 value, omega (arith, x.2, small, long))
