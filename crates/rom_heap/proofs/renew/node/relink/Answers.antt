use Rattle.std.proofs.Common.{length, get_or, refl, ◌∙◌, ap, arith, length-set}
use Rattle.rom_model.specs.VecSpace.{words_of_space}
use Rattle.rom_model.proofs.Nodes.{pow_small}
use Rattle.rom_heap.specs.Node.{head_of}
use Rattle.rom_heap.specs.declared.renew.node.Node.{Node}
use Rattle.rom_heap.proofs.Linking.{at_first, one_further, at_last, node_within, linked, changes}
use Rattle.rom_heap.proofs.renew.node.relink.Goals as goal

pub loop-node-init : goal.loop-node-init
loop-node-init c = record {
  linked = at_first (words_of_space c.args.space.now) (head_of c.args.order c.args.bucket) c.args.nodes.now c.head_of-link.result c.head_of-link.ensures.is;
  within = c.head_of-link.ensures.within;
  long = refl;
}

pub overflow_add-link : goal.overflow_add-link
overflow_add-link c =
    let d : Node = record { key = 0; at = 0 } in
    omega (arith, node_within c.requires.nodes.1 c.loop-node.node-index d c.loop-node-test.true, pow_small c.args.order c.requires.order.most)

pub loop-node-preserved : goal.loop-node-preserved
loop-node-preserved c =
    let d : Node = record { key = 0; at = 0 } in
    let i = c.loop-node.node-index in
    let at = (get_or c.args.nodes.now i d).at in
    record {
      linked = one_further c.loop-node.invariant.linked d c.loop-node-test.true (words_of_space c.store.new.self) c.store.ensures.image;
      within = omega (arith, node_within c.requires.nodes.1 i d c.loop-node-test.true);
      long = ap length c.store.ensures.image ∙ length-set (words_of_space c.loop-node.space) c.loop-node.link at ∙ c.loop-node.invariant.long;
    }

pub returns-clause-linked : goal.returns-clause-linked
returns-clause-linked c blocks are =
    let old = words_of_space c.args.space.now in
    let new = words_of_space c.store-2.new.self in
    linked are old new c.requires.order.least c.requires.bucket c.requires.sized (at_last c.loop-node.invariant.linked c.loop-node-test.false new c.store-2.ensures.image)

pub returns-clause-others : goal.returns-clause-others
returns-clause-others c blocks are =
    let old = words_of_space c.args.space.now in
    let new = words_of_space c.store-2.new.self in
    changes are old new c.requires.order.least c.requires.bucket c.requires.sized (at_last c.loop-node.invariant.linked c.loop-node-test.false new c.store-2.ensures.image)
