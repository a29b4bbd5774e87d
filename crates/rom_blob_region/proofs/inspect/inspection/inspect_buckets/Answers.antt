use Rattle.std.proofs.Common.{◌≡◌, ℕ, ◌+◌, ◌<◌, ◌++◌, sym, subst, arith, append-nil, length-append, List, [], length}
use Rattle.std.specs.Prelude.{Result, Err}
use Rattle.std.proofs.lemmas.Grind.{common_steps}
use Rattle.rom_model.specs.Region.{buckets}
use Rattle.rom_model.proofs.Nodes.{pow_small}
use Rattle.rom_model.specs.declared.unfit.Break.{Break}
use Rattle.rom_blob_region.specs.Region.{AreBlobsApart}
use Rattle.rom_blob_region.specs.Walks.{held}
use Rattle.rom_blob_region.specs.Parts.{BucketByBucket, AnswersBlobWalks}
use Rattle.rom_blob_region.proofs.Blocks.{few}
use Rattle.rom_blob_region.proofs.Ending.{one_more, one_broke}
use Rattle.rom_blob_region.proofs.inspect.inspection.inspect_buckets.Goals as goal

pub returns-in_err-count : goal.returns-in_err-count
returns-in_err-count c =
    let n = c.args.order in
    let w = c.args.region.now in
    let e = c.in_err-count.field-0.0 in
    let was = c.loop-number.invariant in
    let lt : c.loop-number.number < buckets n = omega (arith, c.power_of_two-number-end.ensures.is) in
    let broke : BucketByBucket n w (buckets n) (Err e) = one_broke n w c.loop-number.number (buckets n) was.0 e lt was.1 (c.in_err-count.ensures was.0 was.3) in
    let is : c.from_residual.result ≡ Err e = grind (arith, common_steps) in
    subst (λ (r : Result ℕ Break). AnswersBlobWalks n w (buckets n) r c.walk_bucket.new.marks) (sym is) broke

pub overflow_add-count : goal.overflow_add-count
overflow_add-count c =
    let n = c.args.order in
    let w = c.args.region.now in
    let was = c.loop-number.invariant in
    let go = c.in_ok-count.ensures was.0 was.3 in
    omega (arith, was.2, go.long, few n w (go.units ++ was.0) [] (subst (λ (us : List ℕ). AreBlobsApart n (held n w us)) (sym (append-nil (go.units ++ was.0))) go.marked.apart), length-append go.units was.0, pow_small n c.requires.order.most)

pub loop-number-preserved : goal.loop-number-preserved
loop-number-preserved c =
    let n = c.args.order in
    let w = c.args.region.now in
    let was = c.loop-number.invariant in
    let go = c.in_ok-count.ensures was.0 was.3 in (
      go.units ++ was.0,
      one_more n w c.loop-number.number was.0 go.units was.1 go.walks,
      (let e : c.loop-number.count + c.in_ok-count.field-0 ≡ length (go.units ++ was.0) = omega (arith, was.2, go.long, length-append go.units was.0) in e),
      go.marked,
    )
