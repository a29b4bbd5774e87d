use Rattle.std.proofs.Common.{◌≡◌, ◌+◌, ◌*◌, ◌^◌, length, slice_index, rules, arith, ◌∙◌, ap}
use Rattle.rom_model.proofs.Nodes.{pow_small}
use Rattle.rom_model.proofs.Looks.{looks_more, looks_most}
use Rattle.rom_bucket.specs.Walk.{head_of}
use Rattle.rom_bucket.proofs.Heads.{head_within}
use Rattle.rom_bucket.proofs.Walking.{node_within, falls}
use Rattle.rom_map.specs.Sums.{counted_at}
use Rattle.rom_map.proofs.Totals.{at_start, summed_all, summed_fits, passed_all, next_counted, word_small}
use Rattle.rom_map.proofs.sums.bucket_sum.Goals as goal

pub load-node-requires : goal.load-node-requires
load-node-requires g c = record { within = omega (arith, head_within c.args.order c.args.number c.requires.order.least c.requires.number, c.blocks_at.ensures.is, c.requires.sized) }

pub loop-node-init : goal.loop-node-init
loop-node-init g c = record {
  image = c.load-node.ensures.image;
  way = λ blocks is.
      let here : c.blocks_at.result + c.args.number ≡ head_of c.args.order c.args.number = omega (arith, c.blocks_at.ensures.is) in
      (at_start {f = counted_at c.args.measure c.args.order (g.M.Look.shown.image c.args.space.now)} (c.blocks_at.result + c.args.number) c.load-node.result is here c.load-node.ensures.word, search rules);
}

pub overflow_add-node : goal.overflow_add-node
overflow_add-node g c =
    let q = c.requires.bucket in
    omega (arith, node_within (c.loop-node.invariant.way q.blocks q.are).0.way c.loop-node-test.true q.within, pow_small c.args.order c.requires.order.most, c.word.ensures, word_small c.args.measure)

pub load-word-requires : goal.load-word-requires
load-word-requires g c =
    let q = c.requires.bucket in
    let h = c.loop-node.invariant in
    record { within = omega (arith, node_within (h.way q.blocks q.are).0.way c.loop-node-test.true q.within, ap length h.image, c.requires.sized, c.word.ensures, word_small c.args.measure) }

pub overflow_add-node-in-loop-node : goal.overflow_add-node-in-loop-node
overflow_add-node-in-loop-node g c =
    let q = c.requires.bucket in
    omega (arith, node_within (c.loop-node.invariant.way q.blocks q.are).0.way c.loop-node-test.true q.within, pow_small c.args.order c.requires.order.most)

pub load-node-requires-in-loop-node : goal.load-node-requires-in-loop-node
load-node-requires-in-loop-node g c =
    let q = c.requires.bucket in
    let h = c.loop-node.invariant in
    record { within = omega (arith, node_within (h.way q.blocks q.are).0.way c.loop-node-test.true q.within, ap length h.image, ap length c.load-word.ensures.image, c.requires.sized) }

pub loop-node-smaller : goal.loop-node-smaller
loop-node-smaller g c =
    let q = c.requires.bucket in
    let h = c.loop-node.invariant in
    let next = c.load-node-in-loop-node.ensures.word ∙ ap (λ v. slice_index v (c.loop-node.node + 2)) (c.load-word.ensures.image ∙ h.image) in
    falls (h.way q.blocks q.are).0.way c.loop-node-test.true (2 ^ c.args.order) c.load-node-in-loop-node.result q.few next

pub loop-node-preserved : goal.loop-node-preserved
loop-node-preserved g c =
    let h = c.loop-node.invariant in
    let word = c.load-word.ensures.word ∙ ap (λ v. slice_index v (c.loop-node.node + c.word.result)) h.image ∙ ap (λ j. slice_index (g.M.Look.shown.image c.args.space.now) (c.loop-node.node + j)) c.word.ensures in
    let next = c.load-node-in-loop-node.ensures.word ∙ ap (λ v. slice_index v (c.loop-node.node + 2)) (c.load-word.ensures.image ∙ h.image) in
    record {
      image = c.load-node-in-loop-node.ensures.image ∙ c.load-word.ensures.image ∙ h.image;
      way = λ blocks is.
          let x = h.way blocks is in
          let y = next_counted c.args.measure x.0 c.loop-node-test.true c.load-word.result c.from-total.result c.load-node-in-loop-node.result word (c.from-total.ensures ∙ c.of.ensures) (omega arith) next in
          let one = looks_more g.M.Look.shown (1 + 2 * length x.0.way.front) (1 + 2 * length x.0.way.front + 1) (omega arith) x.1 c.load-word.ensures.image c.load-word.ensures.counts in
          (y.0, looks_more g.M.Look.shown (1 + 2 * length x.0.way.front + 1) (1 + 2 * length y.0.way.front) (omega (arith, y.1)) one c.load-node-in-loop-node.ensures.image c.load-node-in-loop-node.ensures.counts);
    }

pub returns-clause-sum : goal.returns-clause-sum
returns-clause-sum g c blocks is = summed_all {f = counted_at c.args.measure c.args.order (g.M.Look.shown.image c.args.space.now)} (c.loop-node.invariant.way blocks is).0 (omega arith)

pub returns-clause-fits : goal.returns-clause-fits
returns-clause-fits g c blocks is = summed_fits {f = counted_at c.args.measure c.args.order (g.M.Look.shown.image c.args.space.now)} (c.loop-node.invariant.way blocks is).0 (omega arith)

pub returns-clause-looks : goal.returns-clause-looks
returns-clause-looks g c blocks is = let x = c.loop-node.invariant.way blocks is in looks_most g.M.Look.shown _ _ (omega (arith, passed_all {f = counted_at c.args.measure c.args.order (g.M.Look.shown.image c.args.space.now)} x.0 (omega arith))) x.1
