use Rattle.std.proofs.Common.{◌≡◌, ℕ, ◌-◌, ◌^◌, ◌<◌, ◌∷◌, ◌∙◌, sym, ap, subst, arith}
use Rattle.std.specs.Prelude.{Result, Err, MatchResult, slice_index}
use Rattle.std.proofs.lemmas.Grind.{common_steps}
use Rattle.rom_model.proofs.Nodes.{pow_small}
use Rattle.rom_model.specs.declared.unfit.Break.{Break}
use Rattle.rom_blob_region.specs.Walks.{WalksBlobs, HasWalkedBlobs, next_blob_link}
use Rattle.rom_blob_region.proofs.Blocks.{few}
use Rattle.rom_blob_region.proofs.Stepping.{link_inside}
use Rattle.rom_blob_region.proofs.inspect.walk.walk_bucket.Goals as goal

pub offset_bounds-region-reached : goal.offset_bounds-region-reached
offset_bounds-region-reached c =
    let m = c.requires.marks in
    let on = c.loop-reached.invariant m.0 m.1 in
    omega (arith, on.1.link, link_inside c.args.order c.args.region.now c.args.number m.0 on.0 c.requires.order.least c.requires.number on.1.reaches, pow_small c.args.order c.requires.order.most)

pub bounds-region-reached : goal.bounds-region-reached
bounds-region-reached c =
    let m = c.requires.marks in
    let on = c.loop-reached.invariant m.0 m.1 in
    omega (arith, on.1.link, link_inside c.args.order c.args.region.now c.args.number m.0 on.0 c.requires.order.least c.requires.number on.1.reaches, c.requires.sized)

pub step-requires-clause-so_far : goal.step-requires-clause-so_far
step-requires-clause-so_far c =
    let m = c.requires.marks in
    let on = c.loop-reached.invariant m.0 m.1 in
    (m.0, on.0, on.1)

pub returns-in_err-reached : goal.returns-in_err-reached
returns-in_err-reached c seen are =
    let n = c.args.order in
    let w = c.args.region.now in
    let on = c.loop-reached.invariant seen are in
    let e = c.in_err-reached.field-0.0 in
    let some : slice_index w (next_blob_link n c.args.number on.0) ≡ 0 → ⊥ = λ none. c.loop-reached-test.true (ap (λ (a : ℕ). slice_index w a) on.1.link ∙ none) in
    let broke : WalksBlobs n w c.args.number seen (Err e) = (on.0, on.1.reaches, (some, c.in_err-reached.ensures seen on.0 on.1)) in
    let is : c.from_residual.result ≡ Err e = grind (arith, common_steps) in
    subst (λ (r : Result ℕ Break). MatchResult r (λ count. HasWalkedBlobs n w c.args.number seen count c.step.new.marks) (λ d. WalksBlobs n w c.args.number seen (Err d))) (sym is) broke

pub loop-reached-smaller : goal.loop-reached-smaller
loop-reached-smaller c =
    let m = c.requires.marks in
    let on = c.loop-reached.invariant m.0 m.1 in
    let next = c.in_ok-reached.ensures m.0 on.0 on.1 in
    let less : 2 ^ c.args.order - c.in_ok-reached.reached.count < 2 ^ c.args.order - c.loop-reached.reached.count = omega (arith, on.1.count, next.1.count, few c.args.order c.args.region.now (next.0 ∷ on.0) m.0 next.1.marked.apart) in
    less

pub loop-reached-preserved : goal.loop-reached-preserved
loop-reached-preserved c seen are =
    let on = c.loop-reached.invariant seen are in
    let next = c.in_ok-reached.ensures seen on.0 on.1 in
    (next.0 ∷ on.0, next.1)

pub returns : goal.returns
returns c seen are =
    let on = c.loop-reached.invariant seen are in
    let ends : slice_index c.args.region.now (next_blob_link c.args.order c.args.number on.0) ≡ 0 = ap (λ (a : ℕ). slice_index c.args.region.now a) (sym on.1.link) ∙ c.loop-reached-test.false in
    record { units = on.0; walks = (on.1.reaches, ends); long = on.1.count; marked = on.1.marked }
