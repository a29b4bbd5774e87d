use Rattle.std.proofs.Common.{◌≡◌, ℕ, ◌+◌, ◌∷◌, ◌++◌, ◌∙◌, sym, subst, arith, inr, length}
use Rattle.std.specs.Prelude.{Result, Ok, Err, MatchResult}
use Rattle.std.proofs.lemmas.Grind.{common_steps}
use Rattle.rom_model.specs.Blocks.{block_of}
use Rattle.rom_model.proofs.Nodes.{pow_small}
use Rattle.rom_model.specs.declared.unfit.Break.{Break}
use Rattle.rom_heap.specs.declared.inspect.walk.Reached.{Reached}
use Rattle.rom_model.specs.Tests.{checked}
use Rattle.rom_heap.specs.Walks.{LeadsTo, next_link, node_tests, Breaks, IsOnWalk, AreMarks}
use Rattle.rom_heap.proofs.Marking.{few}
use Rattle.rom_heap.proofs.inspect.walk.Walk.step.Goals as goal

pub returns-in_err-inspect_node : goal.returns-in_err-inspect_node
returns-in_err-inspect_node c seen before on =
    let n = c.args.order in
    let w = c.args.region.now in
    let at = c.in_ok-node.ensures (before ++ seen) on.marked in
    let leads : LeadsTo n w (before ++ seen) (next_link n c.args.self before) at.block = subst (λ (l : ℕ). LeadsTo n w (before ++ seen) l at.block) on.known.link at.leads in
    let tests : checked (node_tests n w c.args.self before at.block) ≡ Err c.in_err-inspect_node.field-0.0 = sym (c.inspect_node.ensures seen before at.block on.reaches on.known at.here) ∙ c.in_err-inspect_node.was in
    let broke : Breaks n w c.args.self seen before c.in_err-inspect_node.field-0.0 = inr record { block = at.block; leads = leads; here = tests } in
    let is : c.from_residual-in_err-inspect_node.result ≡ Err c.in_err-inspect_node.field-0.0 = grind (arith, common_steps) in
    subst (λ (r : Result Reached Break). MatchResult r (λ next. (b : ℕ) × IsOnWalk n w c.args.self seen (b ∷ before) next c.follow.new.marks) (λ e. Breaks n w c.args.self seen before e)) (sym is) broke

pub overflow_add-result-2 : goal.overflow_add-result-2
overflow_add-result-2 c =
    let r = c.requires.so_far in
    omega (arith, r.2.known.count, few c.args.order r.1 r.0 r.2.marked.apart, pow_small c.args.order c.requires.order.most)

pub returns : goal.returns
returns c seen before on =
    let n = c.args.order in
    let w = c.args.region.now in
    let at = c.in_ok-node.ensures (before ++ seen) on.marked in
    let leads : LeadsTo n w (before ++ seen) (next_link n c.args.self before) at.block = subst (λ (l : ℕ). LeadsTo n w (before ++ seen) l at.block) on.known.link at.leads in
    let tests : checked (node_tests n w c.args.self before at.block) ≡ Ok tt = sym (c.inspect_node.ensures seen before at.block on.reaches on.known at.here) ∙ c.in_ok-inspect_node.was in (
      at.block,
      record {
        reaches = (on.reaches, leads, tests);
        known = record {
          link = (let e : c.in_ok-node.node + c.next_word.result ≡ block_of n at.block + Rattle.rom_heap.specs.Walks.next_word c.args.self = omega (arith, at.here, c.next_word.ensures.is) in e);
          last = at.here;
          count = (let e : c.args.reached.count + 1 ≡ length (at.block ∷ before) = omega (arith, on.known.count) in e);
        };
        marked = at.marked;
      },
    )
