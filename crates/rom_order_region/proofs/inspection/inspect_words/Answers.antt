use Rattle.std.proofs.Common.{◌≡◌, ℕ, ◌*◌, ◌^◌, false, get_or, ◌++◌, ◌∙◌, sym, ap, subst, arith, List, Bool, length, take, drop}
use Rattle.std.proofs.Math.Seq.{take-append_seam}
use Rattle.std.proofs.lemmas.List.{length-replicate}
use Rattle.std.specs.Prelude.{Result, Err}
use Rattle.std.proofs.lemmas.Grind.{common_steps}
use Rattle.rom_model.specs.declared.unfit.Unfit.{Unfit}
use Rattle.rom_model.specs.declared.unfit.Unfit.TheVariants.{Malformed}
use Rattle.rom_block.specs.Levels.{IsMarked}
use Rattle.rom_order_region.specs.Marks.{IsIndexInspected}
use Rattle.rom_order_region.specs.Region.{taken_pairs}
use Rattle.rom_order_region.proofs.Subtrees.{after_tree, before_tree, none_marked, all_false}
use Rattle.rom_order_region.proofs.inspection.inspect_words.Goals as goal

pub inspect_nodes-requires-clause-marks : goal.inspect_nodes-requires-clause-marks
inspect_nodes-requires-clause-marks c =
    let same = c.deref_mut.ensures.value ∙ c.in-Ok.ensures in
    none_marked c.args.order c.deref_mut.result.now (ap (λ (ms : List Bool). length ms) same ∙ length-replicate (2 * 2 ^ c.args.order) false) (λ i. ap (λ (ms : List Bool). get_or ms i false) same ∙ all_false (2 * 2 ^ c.args.order) i)

pub returns-in_err-inspect_nodes : goal.returns-in_err-inspect_nodes
returns-in_err-inspect_nodes c =
    let e = c.in_err-inspect_nodes.field-0.0 in
    let is : c.from_residual.result ≡ Err (Malformed e.offset e.rule) = grind (arith, common_steps) in
    subst (λ (r : Result (Unit {0}) Unfit). IsIndexInspected c.args.order c.args.region.now r) (sym is) (before_tree c.args.order c.args.region.now e c.in_err-inspect_nodes.ensures)

pub returns : goal.returns
returns c =
    let n = c.args.order in
    let w = c.args.region.now in
    let all = c.in_ok-inspect_nodes.ensures in
    let after = c.inspect_nodes.new.marks in
    let many : c.in-Ok.marks.len ≡ length after = omega (arith, c.in-Ok.marks.ok.0, ap (λ (ms : List Bool). length ms) c.in-Ok.ensures, length-replicate (2 * 2 ^ n) false, all.2.as_long) in
    let same : c.deref.result.now ≡ after = c.deref.ensures.value ∙ (ap (λ (k : ℕ). take k (after ++ drop (length after) c.in-Ok.marks.items)) many ∙ take-append_seam after (drop (length after) c.in-Ok.marks.items)) in
    let marked : IsMarked (taken_pairs n all.0.seen) c.deref.result.now = subst (λ (ms : List Bool). IsMarked (taken_pairs n all.0.seen) ms) (sym same) all.2.marked in
    after_tree n w all.0 c.inspect_marked.result c.requires.sized all.1 (c.inspect_marked.ensures (taken_pairs n all.0.seen) marked)
