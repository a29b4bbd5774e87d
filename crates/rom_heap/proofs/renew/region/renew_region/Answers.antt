use Rattle.std.proofs.Common.{◌≡◌, ◌<◌, refl, ◌∙◌, arith}
use Rattle.rom_model.specs.Region.{buckets}
use Rattle.rom_heap.proofs.Renewing.{all_first, none_yet, chain_of, old_bucket, one_more}
use Rattle.rom_heap.proofs.Regions.{next, keeps, renewed}
use Rattle.rom_heap.proofs.renew.region.renew_region.Goals as goal

pub loop-bucket-init : goal.loop-bucket-init
loop-bucket-init c = record {
  so_far = λ p s k is. none_yet c.requires.order.least is;
  long = refl;
}

pub sort_bucket-requires-clause-bucket : goal.sort_bucket-requires-clause-bucket
sort_bucket-requires-clause-bucket c =
    let q = c.requires.region in
    let is = q.2.1 in
    let x = c.loop-bucket.invariant.so_far q.2.0 q.0 q.1 is in
    let lt : c.loop-bucket.bucket < buckets c.args.order = omega (arith, c.loop-bucket-test.true, c.power_of_two-bucket-end.ensures.is) in
    (chain_of c.requires.order.least is x c.loop-bucket.bucket, old_bucket c.requires.order.least is x c.loop-bucket.bucket lt)

pub loop-bucket-preserved : goal.loop-bucket-preserved
loop-bucket-preserved c =
    let le = c.requires.order.least in
    let lt : c.loop-bucket.bucket < buckets c.args.order = omega (arith, c.loop-bucket-test.true, c.power_of_two-bucket-end.ensures.is) in
    record {
      so_far = λ p s k is.
          let x = c.loop-bucket.invariant.so_far p s k is in
          one_more le is x lt (c.in_ok-sort_bucket.ensures.sorted (chain_of le is x c.loop-bucket.bucket) (old_bucket le is x c.loop-bucket.bucket lt));
      long = c.in_ok-sort_bucket.ensures.long ∙ c.loop-bucket.invariant.long;
    }

pub returns-clause-renewed : goal.returns-clause-renewed
returns-clause-renewed c s k held =
    let le = c.requires.order.least in
    let all : c.loop-bucket.bucket ≡ buckets c.args.order = omega (arith, c.loop-bucket-test.false, c.loop-bucket.auto.bucket-end, c.power_of_two-bucket-end.ensures.is) in
    let x = all_first all (c.loop-bucket.invariant.so_far held.0 s k held.1) in
    (next le held.1 x c.store.ensures.image, renewed le held.1 x c.store.ensures.image)

pub returns-clause-kept : goal.returns-clause-kept
returns-clause-kept c p s k is =
    let all : c.loop-bucket.bucket ≡ buckets c.args.order = omega (arith, c.loop-bucket-test.false, c.loop-bucket.auto.bucket-end, c.power_of_two-bucket-end.ensures.is) in
    keeps c.requires.order.least is (all_first all (c.loop-bucket.invariant.so_far p s k is)) c.store.ensures.image
