use Rattle.std.proofs.Common.{◌≡◌, ℕ, ◌+◌, ◌<◌, ◌++◌, sym, subst, arith, append_assoc, length-append, List, length}
use Rattle.std.specs.Prelude.{Result, Ok, Err}
use Rattle.std.proofs.lemmas.Grind.{common_steps}
use Rattle.rom_model.specs.Region.{buckets}
use Rattle.rom_model.proofs.Nodes.{pow_small}
use Rattle.rom_model.specs.declared.unfit.Break.{Break}
use Rattle.rom_heap.specs.declared.inspect.walk.Walk.{Walk}
use Rattle.rom_heap.specs.Walks.{Walks, AreMarks, bucket_walk}
use Rattle.rom_heap.specs.Parts.{OneByOne, AnswersWalks}
use Rattle.rom_heap.proofs.Marking.{few}
use Rattle.rom_heap.proofs.Ending.{one_more, one_broke}
use Rattle.rom_heap.proofs.inspect.parts.inspect_buckets.Goals as goal

pub returns-in_err-reached : goal.returns-in_err-reached
returns-in_err-reached c seen are =
    let n = c.args.order in
    let w = c.args.region.now in
    let e = c.in_err-reached.field-0.0 in
    let was = c.loop-number.invariant seen are in
    let lt : c.loop-number.number < buckets n = omega (arith, c.power_of_two-number-end.ensures.is) in
    let broke : OneByOne n w (bucket_walk c.args.version) seen (buckets n) (Err e) = one_broke n w (bucket_walk c.args.version) seen c.loop-number.number (buckets n) was.0 e lt was.1 (subst (λ (walk : Walk). Walks n w walk (was.0 ++ seen) (Err e)) c.bucket.ensures (c.in_err-reached.ensures (was.0 ++ seen) was.3)) in
    let is : c.from_residual.result ≡ Err e = grind (arith, common_steps) in
    subst (λ (r : Result ℕ Break). AnswersWalks n w (bucket_walk c.args.version) seen (buckets n) r c.go.new.marks) (sym is) broke

pub overflow_add-count : goal.overflow_add-count
overflow_add-count c =
    let n = c.args.order in
    let m = c.requires.marks in
    let was = c.loop-number.invariant m.0 m.1 in
    let go = c.in_ok-reached.ensures (was.0 ++ m.0) was.3 in
    omega (arith, was.2, go.known.count, few n go.blocks (was.0 ++ m.0) go.marked.apart, few n was.0 m.0 was.3.apart, pow_small n c.requires.order.most)

pub loop-number-preserved : goal.loop-number-preserved
loop-number-preserved c seen are =
    let n = c.args.order in
    let w = c.args.region.now in
    let was = c.loop-number.invariant seen are in
    let go = c.in_ok-reached.ensures (was.0 ++ seen) was.3 in (
      go.blocks ++ was.0,
      one_more n w (bucket_walk c.args.version) seen c.loop-number.number was.0 go.blocks was.1 (subst (λ (walk : Walk). Walks n w walk (was.0 ++ seen) (Ok go.blocks)) c.bucket.ensures go.walks),
      (let e : c.loop-number.count + c.in_ok-reached.reached.count ≡ length (go.blocks ++ was.0) = omega (arith, was.2, go.known.count, length-append go.blocks was.0) in e),
      subst (λ (xs : List ℕ). AreMarks n xs c.go.new.marks) (sym (append_assoc go.blocks was.0 seen)) go.marked,
    )
