use Rattle.std.proofs.Common.{◌≡◌, ◌+◌, ◌<◌, length, arith, sym, ◌∙◌, ap}
use Rattle.std.specs.List.{sum_by}
use Rattle.rom_model.specs.Region.{all_of, buckets}
use Rattle.rom_model.proofs.Nodes.{pow_small}
use Rattle.rom_bucket.proofs.Keys.{holds_bucket, few}
use Rattle.rom_blob_carry.specs.Sizes.{counted_at}
use Rattle.rom_blob_carry.proofs.Sums.{blocks_total}
use Rattle.rom_blob_carry.proofs.Walks.{all_shorter, next_bucket}
use Rattle.rom_blob_carry.proofs.totals.total.Goals as goal

pub bucket_total-total-requires-clause-bucket : goal.bucket_total-total-requires-clause-bucket
bucket_total-total-requires-clause-bucket c = holds_bucket c.requires.region.2.1.keys c.loop-number.number (omega (arith, c.power_of_two-number-end.ensures.is))

pub loop-number-preserved : goal.loop-number-preserved
loop-number-preserved c f s k is =
    let n = c.args.order in
    let m = c.loop-number.number in
    let lt : m < buckets n = omega (arith, c.power_of_two-number-end.ensures.is) in
    next_bucket {f = counted_at c.args.measure n c.args.words.now} c.bucket_total-total.result (c.loop-number.invariant f s k is) (c.bucket_total-total.ensures.sum (f m) (is.keys.chains m lt)) (c.bucket_total-total.ensures.fits (f m) (is.keys.chains m lt))

pub overflow_add-total : goal.overflow_add-total
overflow_add-total c =
    let n = c.args.order in
    let r = c.requires.region in
    let m = c.loop-number.number in
    let f = r.2.0 in
    let lt : m < buckets n = omega (arith, c.power_of_two-number-end.ensures.is) in
    let x = next_bucket {f = counted_at c.args.measure n c.args.words.now} c.bucket_total-total.result (c.loop-number.invariant f r.0 r.1 r.2.1) (c.bucket_total-total.ensures.sum (f m) (r.2.1.keys.chains m lt)) (c.bucket_total-total.ensures.fits (f m) (r.2.1.keys.chains m lt)) in
    omega (arith, x.fits, all_shorter f (m + 1) (buckets n) (omega (arith, lt)), few r.2.1.keys, pow_small n c.requires.order.most)

pub returns-clause-sum : goal.returns-clause-sum
returns-clause-sum c s k held =
    let last : c.loop-number.number ≡ buckets c.args.order = omega (arith, c.power_of_two-number-end.ensures.is) in
    let x = c.loop-number.invariant held.0 s k held.1 in
    x.total_is ∙ ap (λ m. sum_by (counted_at c.args.measure c.args.order c.args.words.now) (all_of held.0 m)) last ∙ sym (blocks_total held.1 c.args.measure)

pub returns-clause-fits : goal.returns-clause-fits
returns-clause-fits c =
    let r = c.requires.region in
    let last : c.loop-number.number ≡ buckets c.args.order = omega (arith, c.power_of_two-number-end.ensures.is) in
    let x = c.loop-number.invariant r.2.0 r.0 r.1 r.2.1 in
    omega (arith, x.fits, ap (λ m. length (all_of r.2.0 m)) last, few r.2.1.keys, pow_small c.args.order c.requires.order.most)
