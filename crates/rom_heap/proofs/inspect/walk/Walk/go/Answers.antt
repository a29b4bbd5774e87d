use Rattle.std.proofs.Common.{◌≡◌, ℕ, ◌-◌, ◌^◌, ◌<◌, ◌∷◌, ◌∙◌, sym, ap, subst, arith, length}
use Rattle.std.specs.Prelude.{Result, Err, MatchResult, slice_index}
use Rattle.std.proofs.lemmas.Grind.{common_steps}
use Rattle.rom_model.specs.declared.unfit.Break.{Break}
use Rattle.rom_heap.specs.declared.inspect.walk.Reached.{Reached}
use Rattle.rom_heap.specs.Walks.{Walks, HasWalked, next_link}
use Rattle.rom_heap.proofs.Marking.{few, link_inside}
use Rattle.rom_heap.proofs.inspect.walk.Walk.go.Goals as goal

pub bounds-region-reached : goal.bounds-region-reached
bounds-region-reached c =
    let m = c.requires.marks in
    let on = c.loop-reached.invariant m.0 m.1 in
    let inside : c.loop-reached.reached.link < length c.args.region.now = omega (arith, on.1.known.link, link_inside c.args.order c.args.region.now c.args.self m.0 on.0 c.requires.order.least c.requires.walk on.1.reaches) in
    inside

pub returns-in_err-reached : goal.returns-in_err-reached
returns-in_err-reached c seen are =
    let n = c.args.order in
    let w = c.args.region.now in
    let on = c.loop-reached.invariant seen are in
    let broke : Walks n w c.args.self seen (Err c.in_err-reached.field-0.0) = (on.0, on.1.reaches, c.in_err-reached.ensures seen on.0 on.1) in
    let is : c.from_residual.result ≡ Err c.in_err-reached.field-0.0 = grind (arith, common_steps) in
    subst
    (λ (r : Result Reached Break). MatchResult r (λ reached. HasWalked n w c.args.self seen reached c.step.new.marks) (λ e. Walks n w c.args.self seen (Err e)))
    (sym is) broke

pub loop-reached-smaller : goal.loop-reached-smaller
loop-reached-smaller c =
    let m = c.requires.marks in
    let on = c.loop-reached.invariant m.0 m.1 in
    let next = c.in_ok-reached.ensures m.0 on.0 on.1 in
    let less : 2 ^ c.args.order - c.in_ok-reached.reached.count < 2 ^ c.args.order - c.loop-reached.reached.count = omega (arith, on.1.known.count, next.1.known.count, few c.args.order (next.0 ∷ on.0) m.0 next.1.marked.apart) in
    less

pub loop-reached-preserved : goal.loop-reached-preserved
loop-reached-preserved c seen are =
    let on = c.loop-reached.invariant seen are in
    let next = c.in_ok-reached.ensures seen on.0 on.1 in
    (next.0 ∷ on.0, next.1)

pub returns : goal.returns
returns c seen are =
    let on = c.loop-reached.invariant seen are in
    let ends : slice_index c.args.region.now (next_link c.args.order c.args.self on.0) ≡ 0 = ap (λ (a : ℕ). slice_index c.args.region.now a) (sym on.1.known.link) ∙ c.loop-reached-test.false in
    record { blocks = on.0; walks = (on.1.reaches, ends); known = on.1.known; marked = on.1.marked }
