use Rattle.std.proofs.Common.{◌≡◌, ◌+◌, ◌++◌, sym, ◌∙◌, ap, subst, arith}
use Rattle.rom_model.specs.Blocks.{block_of}
use Rattle.rom_model.specs.Chains.{Chain, each_word}
use Rattle.rom_model.specs.Region.{all_of, buckets}
use Rattle.rom_model.proofs.Links.{each_append}
use Rattle.rom_bucket.proofs.Heads.{head_within}
use Rattle.rom_map.proofs.Totals.{all_next}
use Rattle.rom_rebuild.specs.Chains.{HoldsChain}
use Rattle.rom_rebuild.proofs.Regions.{holds_bucket_of}
use Rattle.rom_rebuild.proofs.elements.keys.collect_buckets.Goals as goal

pub collect_chain-requires-clause-link : goal.collect_chain-requires-clause-link
collect_chain-requires-clause-link c =
    omega (arith, head_within c.args.order c.loop-number.number c.requires.order.least (omega (arith, c.power_of_two-number-end.ensures.is)), c.blocks_at.ensures.is, c.requires.region.contents.1.shape.as_long)

pub collect_chain-requires-clause-chain : goal.collect_chain-requires-clause-chain
collect_chain-requires-clause-chain c =
    let here : c.blocks_at.result + c.loop-number.number ≡ block_of c.args.order 0 + c.loop-number.number = omega (arith, c.blocks_at.ensures.is) in
    subst (λ l. HoldsChain c.args.order c.args.words.now l 2) (sym here) (holds_bucket_of c.requires.region.contents.1 c.loop-number.number (omega (arith, c.power_of_two-number-end.ensures.is)))

pub loop-number-preserved : goal.loop-number-preserved
loop-number-preserved c =
    let n = c.args.order in
    let w = c.args.words.now in
    let m = c.loop-number.number in
    let here : c.blocks_at.result + m ≡ block_of n 0 + m = omega (arith, c.blocks_at.ensures.is) in
    record {
      far = λ p s k is.
          let chain = subst (λ l. Chain n w l 2 (p.bucket m)) (sym here) (is.shape.map.chains m (omega (arith, c.power_of_two-number-end.ensures.is))) in
          c.in_ok-collect_chain.ensures.collected (p.bucket m) chain ∙ ap (λ xs. xs ++ each_word n w 0 (p.bucket m)) (c.loop-number.invariant.far p s k is)
          ∙ sym (each_append n 0 w (all_of p.bucket m) (p.bucket m)) ∙ ap (λ bs. each_word n w 0 bs) (sym (all_next p.bucket m));
      fit = c.collect_chain.ensures.fit c.loop-number.invariant.fit;
    }

pub returns-clause-collected : goal.returns-clause-collected
returns-clause-collected c p s k is =
    let last : c.loop-number.number ≡ buckets c.args.order = omega (arith, c.power_of_two-number-end.ensures.is) in
    c.loop-number.invariant.far p s k is ∙ ap (λ m. each_word c.args.order c.args.words.now 0 (all_of p.bucket m)) last
