use Rattle.std.proofs.Common.{◌≡◌, ◌+◌, ◌^◌, slice_index, arith, sym, append-nil}
use Rattle.rom_model.proofs.Nodes.{pow_small}
use Rattle.rom_bucket.specs.Walk.{head_of}
use Rattle.rom_bucket.proofs.Heads.{head_within}
use Rattle.rom_bucket.proofs.Walking.{node_within, falls, further}
use Rattle.rom_blob_carry.proofs.Fits.{fit_more}
use Rattle.rom_blob_carry.proofs.Walks.{at_start, next_key}
use Rattle.rom_blob_carry.proofs.elements.keys.collect_bucket.Goals as goal

pub bounds-words-blocks_at : goal.bounds-words-blocks_at
bounds-words-blocks_at c = omega (arith, head_within c.args.order c.args.number c.requires.order.least c.requires.number, c.blocks_at.ensures.is, c.requires.sized)

pub loop-node-init : goal.loop-node-init
loop-node-init c = record {
  way = λ blocks is.
      let here : c.blocks_at.result + c.args.number ≡ head_of c.args.order c.args.number = omega (arith, c.blocks_at.ensures.is) in
      (at_start c.args.number (c.blocks_at.result + c.args.number) (slice_index c.args.words.now (c.blocks_at.result + c.args.number)) is here (λ i. slice_index c.args.words.now (c.blocks_at.result + c.args.number)), sym (append-nil c.args.into.now.items));
  fit = λ fits. fits;
}

pub offset_bounds-words-node : goal.offset_bounds-words-node
offset_bounds-words-node c =
    let q = c.requires.bucket in
    omega (arith, node_within (c.loop-node.invariant.way q.blocks q.are).0 c.loop-node-test.true q.within, pow_small c.args.order c.requires.order.most)

pub bounds-words-node : goal.bounds-words-node
bounds-words-node c =
    let q = c.requires.bucket in
    omega (arith, node_within (c.loop-node.invariant.way q.blocks q.are).0 c.loop-node-test.true q.within, c.requires.sized)

pub overflow_add-node-in-loop-node : goal.overflow_add-node-in-loop-node
overflow_add-node-in-loop-node c =
    let q = c.requires.bucket in
    omega (arith, node_within (c.loop-node.invariant.way q.blocks q.are).0 c.loop-node-test.true q.within, pow_small c.args.order c.requires.order.most)

pub offset_bounds-words-node-in-loop-node : goal.offset_bounds-words-node-in-loop-node
offset_bounds-words-node-in-loop-node c =
    let q = c.requires.bucket in
    omega (arith, node_within (c.loop-node.invariant.way q.blocks q.are).0 c.loop-node-test.true q.within, pow_small c.args.order c.requires.order.most)

pub bounds-words-node-in-loop-node : goal.bounds-words-node-in-loop-node
bounds-words-node-in-loop-node c =
    let q = c.requires.bucket in
    omega (arith, node_within (c.loop-node.invariant.way q.blocks q.are).0 c.loop-node-test.true q.within, c.requires.sized)

pub loop-node-smaller : goal.loop-node-smaller
loop-node-smaller c =
    let q = c.requires.bucket in
    falls (c.loop-node.invariant.way q.blocks q.are).0 c.loop-node-test.true (2 ^ c.args.order) (slice_index c.args.words.now (c.loop-node.node + 2)) q.few (λ i. slice_index c.args.words.now (c.loop-node.node + 2))

pub loop-node-preserved : goal.loop-node-preserved
loop-node-preserved c =
    let w = c.args.words.now in
    let h = c.loop-node.invariant in
    let next = slice_index w (c.loop-node.node + 2) in
    let items = c.in_ok-push.ensures.items in
    record {
      way = λ blocks is.
          let x = h.way blocks is in
          (further x.0 c.loop-node-test.true next (λ i. next), next_key x.0 c.loop-node-test.true next (λ i. next) c.args.into.now.items c.loop-node.into.items c.push.new.self.items x.1 items);
      fit = λ fits. fit_more c.loop-node.into.items c.push.new.self.items (slice_index w c.loop-node.node) items (omega arith) (h.fit fits);
    }
