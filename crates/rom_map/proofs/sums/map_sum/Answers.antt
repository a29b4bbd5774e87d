use Rattle.std.proofs.Common.{◌≡◌, ◌+◌, ◌<◌, length, arith, sym, ◌∙◌, ap, subst, length-append}
use Rattle.std.specs.List.{sum_by}
use Rattle.rom_model.specs.Region.{all_of, buckets}
use Rattle.rom_model.proofs.Nodes.{pow_small}
use Rattle.rom_model.proofs.Looks.{looks_most, looks_then}
use Rattle.rom_bucket.specs.Walk.{IsBucket, HoldsBucket}
use Rattle.rom_bucket.proofs.Keys.{holds_bucket, few}
use Rattle.rom_map.specs.Sums.{measured, counted_at}
use Rattle.rom_map.proofs.Keyed.{map_keys, many}
use Rattle.rom_map.proofs.Totals.{all_next, all_shorter, next_bucket, blocks_sum}
use Rattle.rom_map.proofs.sums.map_sum.Goals as goal

pub bucket_sum-total-requires-clause-bucket : goal.bucket_sum-total-requires-clause-bucket
bucket_sum-total-requires-clause-bucket g c = subst (λ v. HoldsBucket c.args.order c.loop-number.number v) (sym c.loop-number.invariant.image) (holds_bucket (map_keys c.requires.region.contents.1) c.loop-number.number (omega (arith, c.power_of_two-number-end.ensures.is)))

pub overflow_add-total : goal.overflow_add-total
overflow_add-total g c =
    let n = c.args.order in
    let r = c.requires.region in
    let m = c.loop-number.number in
    let f = r.contents.0.bucket in
    let lt : m < buckets n = omega (arith, c.power_of_two-number-end.ensures.is) in
    let x = (c.loop-number.invariant.far r.contents.0 r.state r.count r.contents.1).0 in
    let here = subst (λ v. IsBucket n v m (f m)) (sym c.loop-number.invariant.image) (r.contents.1.shape.map.chains m lt) in
    let long = ap length (all_next f m) ∙ length-append (all_of f m) (f m) in
    omega (arith, x.fits, c.bucket_sum-total.ensures.fits (f m) here, long, all_shorter f (m + 1) (buckets n) (omega (arith, lt)), few (map_keys r.contents.1), pow_small n c.requires.order.most)

pub loop-number-preserved : goal.loop-number-preserved
loop-number-preserved g c =
    let n = c.args.order in
    let r = c.requires.region in
    let m = c.loop-number.number in
    let same = c.loop-number.invariant.image in
    let lt : m < buckets n = omega (arith, c.power_of_two-number-end.ensures.is) in
    record {
      image = (c.bucket_sum-total.ensures.looks (r.contents.0.bucket m) (subst (λ v. IsBucket n v m (r.contents.0.bucket m)) (sym same) (r.contents.1.shape.map.chains m lt))).image ∙ same;
      far = λ p s k is.
          let here = subst (λ v. IsBucket n v m (p.bucket m)) (sym same) (is.shape.map.chains m lt) in
          let x = c.loop-number.invariant.far p s k is in
          let value = c.bucket_sum-total.ensures.sum (p.bucket m) here ∙ ap (λ v. sum_by (counted_at c.args.measure n v) (p.bucket m)) same in
          let long = ap length (all_next p.bucket m) ∙ length-append (all_of p.bucket m) (p.bucket m) in
          (next_bucket {f = counted_at c.args.measure n (g.M.Look.shown.image c.args.space.now)} c.bucket_sum-total.result x.0 value (c.bucket_sum-total.ensures.fits (p.bucket m) here), looks_then _ (omega (arith, long)) x.1 (c.bucket_sum-total.ensures.looks (p.bucket m) here));
    }

pub returns-clause-sum : goal.returns-clause-sum
returns-clause-sum g c s k held =
    let last : c.loop-number.number ≡ buckets c.args.order = omega (arith, c.power_of_two-number-end.ensures.is) in
    let x = (c.loop-number.invariant.far held.0 s k held.1).0 in
    x.total_is ∙ ap (λ m. sum_by (counted_at c.args.measure c.args.order (g.M.Look.shown.image c.args.space.now)) (all_of held.0.bucket m)) last ∙ sym (blocks_sum held.1 (measured c.args.measure))

pub returns-clause-looks : goal.returns-clause-looks
returns-clause-looks g c s k held =
    let last : c.loop-number.number ≡ buckets c.args.order = omega (arith, c.power_of_two-number-end.ensures.is) in
    let x = (c.loop-number.invariant.far held.0 s k held.1).1 in
    looks_most g.M.Look.shown _ _ (omega (arith, last, ap (λ m. length (all_of held.0.bucket m)) last, many held.1)) x

pub returns-clause-fits : goal.returns-clause-fits
returns-clause-fits g c =
    let r = c.requires.region in
    let last : c.loop-number.number ≡ buckets c.args.order = omega (arith, c.power_of_two-number-end.ensures.is) in
    let x = (c.loop-number.invariant.far r.contents.0 r.state r.count r.contents.1).0 in
    omega (arith, x.fits, ap (λ m. length (all_of r.contents.0.bucket m)) last, few (map_keys r.contents.1), pow_small c.args.order c.requires.order.most)
