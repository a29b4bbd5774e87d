use Rattle.std.proofs.Common.{◌≡◌, ◌<◌, ◌++◌, sym, ◌∙◌, ap, arith}
use Rattle.rom_model.specs.Chains.{each_word}
use Rattle.rom_model.specs.Region.{all_of, buckets}
use Rattle.rom_model.proofs.Links.{each_append}
use Rattle.rom_bucket.proofs.Keys.{holds_bucket}
use Rattle.rom_blob_carry.proofs.Walks.{all_next}
use Rattle.rom_blob_carry.proofs.elements.keys.collect_buckets.Goals as goal

pub collect_bucket-requires-clause-bucket : goal.collect_bucket-requires-clause-bucket
collect_bucket-requires-clause-bucket c = holds_bucket c.requires.region.2.1.keys c.loop-number.number (omega (arith, c.power_of_two-number-end.ensures.is))

pub loop-number-preserved : goal.loop-number-preserved
loop-number-preserved c =
    let n = c.args.order in
    let w = c.args.words.now in
    let m = c.loop-number.number in
    let lt : m < buckets n = omega (arith, c.power_of_two-number-end.ensures.is) in
    record {
      far = λ f s k is.
          c.in_ok-collect_bucket.ensures.collected (f m) (is.keys.chains m lt) ∙ ap (λ xs. xs ++ each_word n w 0 (f m)) (c.loop-number.invariant.far f s k is)
          ∙ sym (each_append n 0 w (all_of f m) (f m)) ∙ ap (λ bs. each_word n w 0 bs) (sym (all_next f m));
      fit = c.collect_bucket.ensures.fit c.loop-number.invariant.fit;
    }

pub returns-clause-collected : goal.returns-clause-collected
returns-clause-collected c f s k is =
    let last : c.loop-number.number ≡ buckets c.args.order = omega (arith, c.power_of_two-number-end.ensures.is) in
    c.loop-number.invariant.far f s k is ∙ ap (λ m. each_word c.args.order c.args.words.now 0 (all_of f m)) last
