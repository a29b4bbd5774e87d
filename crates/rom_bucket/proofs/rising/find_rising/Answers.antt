use Rattle.std.proofs.Common.{◌≡◌, ◌+◌, ◌*◌, ◌^◌, length, slice_index, rules, arith, refl, ◌∙◌, ap}
use Rattle.std.specs.Prelude.{◌==◌}
use Rattle.rom_model.specs.Region.{bucket_of}
use Rattle.rom_model.proofs.Nodes.{pow_small}
use Rattle.rom_model.proofs.Looks.{looks_most, looks_more}
use Rattle.rom_bucket.proofs.Heads.{bucket_within, head_within}
use Rattle.rom_bucket.proofs.Walking.{node_within, falls}
use Rattle.rom_bucket.proofs.Seeking.{along, at_head, at_end, no_load, at_node, one_load, step}
use Rattle.rom_bucket.proofs.rising.find_rising.Goals as goal

pub load-node-requires : goal.load-node-requires
load-node-requires g c =
    let n = c.args.order in
    let o = c.requires.order in
    record { within = omega (arith, head_within n (bucket_of n c.args.key) o.least (bucket_within n c.args.key o.least o.most), c.head_of-link.ensures.is, c.requires.sized) }

pub loop-node-init : goal.loop-node-init
loop-node-init g c = record {
  image = c.load-node.ensures.image;
  way = λ blocks is. (at_head c.args.key c.head_of-link.result c.load-node.result is c.head_of-link.ensures.is c.load-node.ensures.word, search rules);
}

pub load-there-requires : goal.load-there-requires
load-there-requires g c =
    let q = c.requires.bucket in
    let h = c.loop-node.invariant in
    record { within = omega (arith, node_within (along q.are (h.way q.blocks q.are).0) c.loop-node-test.true q.within, ap length h.image, c.requires.sized) }

pub returns-then-there-key : goal.returns-then-there-key
returns-then-there-key g c =
    let h = c.loop-node.invariant in
    let load : c.load-there.result ≡ slice_index (g.M.Look.shown.image c.args.space.now) c.loop-node.node = c.load-there.ensures.word ∙ ap (λ v. slice_index v c.loop-node.node) h.image in
    record {
      is = λ blocks is.
          let x = h.way blocks is in (
            at_node is x.0 c.loop-node-test.true (c.load-there.result == c.args.key) (ap (λ a. a == c.args.key) load) (omega (arith, load)),
            looks_more g.M.Look.shown _ _ (omega (arith, one_load is x.0 c.loop-node-test.true)) x.1 c.load-there.ensures.image c.load-there.ensures.counts,
          );
    }

pub overflow_add-link : goal.overflow_add-link
overflow_add-link g c =
    let q = c.requires.bucket in
    omega (arith, node_within (along q.are (c.loop-node.invariant.way q.blocks q.are).0) c.loop-node-test.true q.within, pow_small c.args.order c.requires.order.most)

pub load-node-requires-in-loop-node : goal.load-node-requires-in-loop-node
load-node-requires-in-loop-node g c =
    let q = c.requires.bucket in
    let h = c.loop-node.invariant in
    record { within = omega (arith, node_within (along q.are (h.way q.blocks q.are).0) c.loop-node-test.true q.within, ap length h.image, ap length c.load-there.ensures.image, c.requires.sized) }

pub loop-node-smaller : goal.loop-node-smaller
loop-node-smaller g c =
    let q = c.requires.bucket in
    let h = c.loop-node.invariant in
    let next = c.load-node-in-loop-node.ensures.word ∙ ap (λ v. slice_index v (c.loop-node.node + 2)) (c.load-there.ensures.image ∙ h.image) in
    falls (along q.are (h.way q.blocks q.are).0) c.loop-node-test.true (2 ^ c.args.order) c.load-node-in-loop-node.result q.few next

pub loop-node-preserved : goal.loop-node-preserved
loop-node-preserved g c =
    let h = c.loop-node.invariant in
    let load : c.load-there.result ≡ slice_index (g.M.Look.shown.image c.args.space.now) c.loop-node.node = c.load-there.ensures.word ∙ ap (λ v. slice_index v c.loop-node.node) h.image in
    let next = c.load-node-in-loop-node.ensures.word ∙ ap (λ v. slice_index v (c.loop-node.node + 2)) (c.load-there.ensures.image ∙ h.image) in
    record {
      image = c.load-node-in-loop-node.ensures.image ∙ c.load-there.ensures.image ∙ h.image;
      way = λ blocks is.
          let x = h.way blocks is in
          let y = step is x.0 c.loop-node-test.true c.load-node-in-loop-node.result (omega (arith, load)) next in
          let one = looks_more g.M.Look.shown (1 + 2 * length x.0.front) (1 + 2 * length x.0.front + 1) (omega arith) x.1 c.load-there.ensures.image c.load-there.ensures.counts in
          (y.0, looks_more g.M.Look.shown (1 + 2 * length x.0.front + 1) (1 + 2 * length y.0.front) (omega (arith, y.1)) one c.load-node-in-loop-node.ensures.image c.load-node-in-loop-node.ensures.counts);
    }

pub returns : goal.returns
returns g c = record {
  is = λ blocks is. let x = c.loop-node.invariant.way blocks is in (at_end is x.0 (omega arith) _ refl, looks_most g.M.Look.shown _ _ (omega (arith, no_load is x.0 (omega arith))) x.1);
}
