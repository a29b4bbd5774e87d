use Rattle.std.proofs.Common.{rules, ◌≡◌, ◌+◌, ◌*◌, length, slice_index, arith, ◌∙◌, ap, refl}
use Rattle.std.specs.Prelude.{◌==◌}
use Rattle.rom_model.proofs.Nodes.{pow_small}
use Rattle.rom_model.proofs.Looks.{looks_most, looks_more}
use Rattle.rom_set.proofs.Walking.{at_head, front_few, front_fits, node_within, at_node, at_end, step, falls}
use Rattle.rom_set.proofs.walk.find.Goals as goal

pub loop-node-init : goal.loop-node-init
loop-node-init g c = record {
  image = c.load-node.ensures.image;
  way = λ blocks members is. (at_head c.args.key c.load-node.result is c.load-node.ensures.word, search rules);
}

pub load-there-requires : goal.load-there-requires
load-there-requires g c =
    let q = c.requires.set in
    let h = c.loop-node.invariant in
    let few = node_within q.set (h.way q.blocks q.members q.set).0 c.loop-node-test.true q.are in
    record { within = omega (arith, few, ap length h.image, c.requires.sized) }

pub returns-then-there-key-clause-is : goal.returns-then-there-key-clause-is
returns-then-there-key-clause-is g c blocks members is =
    let h = c.loop-node.invariant in
    let load : c.load-there.result ≡ slice_index (g.M.Look.shown.image c.args.space.now) c.loop-node.node = c.load-there.ensures.word ∙ ap (λ v. slice_index v c.loop-node.node) h.image in
    at_node is (h.way blocks members is).0 c.loop-node-test.true (c.load-there.result == c.args.key) (ap (λ a. a == c.args.key) load) (omega (arith, load))

pub returns-then-there-key-clause-looks : goal.returns-then-there-key-clause-looks
returns-then-there-key-clause-looks g c blocks members is =
    let x = c.loop-node.invariant.way blocks members is in
    looks_more g.M.Look.shown _ _ (omega (arith, front_few is x.0)) x.1 c.load-there.ensures.image c.load-there.ensures.counts

pub returns-then-there-key-clause-ends : goal.returns-then-there-key-clause-ends
returns-then-there-key-clause-ends g c =
    let q = c.requires.set in
    let x = c.loop-node.invariant.way q.blocks q.members q.set in
    looks_more g.M.Look.shown _ _ (omega (arith, front_fits q.set x.0 q.are)) x.1 c.load-there.ensures.image c.load-there.ensures.counts

pub overflow_add-link : goal.overflow_add-link
overflow_add-link g c =
    let q = c.requires.set in
    omega (arith, node_within q.set (c.loop-node.invariant.way q.blocks q.members q.set).0 c.loop-node-test.true q.are, pow_small c.args.order c.requires.most)

pub load-node-requires-in-loop-node : goal.load-node-requires-in-loop-node
load-node-requires-in-loop-node g c =
    let q = c.requires.set in
    let h = c.loop-node.invariant in
    let few = node_within q.set (h.way q.blocks q.members q.set).0 c.loop-node-test.true q.are in
    record { within = omega (arith, few, ap length h.image, ap length c.load-there.ensures.image, c.requires.sized) }

pub loop-node-smaller : goal.loop-node-smaller
loop-node-smaller g c =
    let q = c.requires.set in
    let h = c.loop-node.invariant in
    let w = g.M.Look.shown.image c.args.space.now in
    let load : c.load-there.result ≡ slice_index w c.loop-node.node = c.load-there.ensures.word ∙ ap (λ v. slice_index v c.loop-node.node) h.image in
    let next : c.load-node-in-loop-node.result ≡ slice_index w (c.loop-node.node + 1) = c.load-node-in-loop-node.ensures.word ∙ ap (λ v. slice_index v (c.loop-node.node + 1)) (c.load-there.ensures.image ∙ h.image) in
    falls q.set (h.way q.blocks q.members q.set).0 c.loop-node-test.true c.load-node-in-loop-node.result (omega (arith, load)) next

pub loop-node-preserved : goal.loop-node-preserved
loop-node-preserved g c =
    let h = c.loop-node.invariant in
    let w = g.M.Look.shown.image c.args.space.now in
    let load : c.load-there.result ≡ slice_index w c.loop-node.node = c.load-there.ensures.word ∙ ap (λ v. slice_index v c.loop-node.node) h.image in
    let next : c.load-node-in-loop-node.result ≡ slice_index w (c.loop-node.node + 1) = c.load-node-in-loop-node.ensures.word ∙ ap (λ v. slice_index v (c.loop-node.node + 1)) (c.load-there.ensures.image ∙ h.image) in
    record {
      image = c.load-node-in-loop-node.ensures.image ∙ c.load-there.ensures.image ∙ h.image;
      way = λ blocks members is.
          let x = h.way blocks members is in
          let y = step is x.0 c.loop-node-test.true c.load-node-in-loop-node.result (omega (arith, load)) next in
          let one = looks_more g.M.Look.shown (1 + 2 * length x.0.front) (1 + 2 * length x.0.front + 1) (omega arith) x.1 c.load-there.ensures.image c.load-there.ensures.counts in
          (y.0, looks_more g.M.Look.shown (1 + 2 * length x.0.front + 1) (1 + 2 * length y.0.front) (omega (arith, y.1)) one c.load-node-in-loop-node.ensures.image c.load-node-in-loop-node.ensures.counts);
    }

pub returns-clause-is : goal.returns-clause-is
returns-clause-is g c blocks members is = at_end is (c.loop-node.invariant.way blocks members is).0 _ refl (omega arith)

pub returns-clause-looks : goal.returns-clause-looks
returns-clause-looks g c blocks members is =
    let x = c.loop-node.invariant.way blocks members is in
    looks_most g.M.Look.shown _ _ (omega (arith, front_few is x.0)) x.1

pub returns-clause-ends : goal.returns-clause-ends
returns-clause-ends g c =
    let q = c.requires.set in
    let x = c.loop-node.invariant.way q.blocks q.members q.set in
    looks_most g.M.Look.shown _ _ (omega (arith, front_fits q.set x.0 q.are)) x.1
