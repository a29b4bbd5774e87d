use Rattle.std.proofs.Common.{◌≡◌, ℕ, ◌++◌, ◌∙◌, sym, ap, subst, arith, List, Bool, length, take, drop}
use Rattle.std.proofs.Math.Seq.{take-append_seam}
use Rattle.rom_model.specs.Region.{taken_by}
use Rattle.rom_block.specs.Levels.{IsMarked}
use Rattle.rom_heap.proofs.Whole.{after_tree}
use Rattle.rom_heap.proofs.inspect.inspection.inspect_as.Goals as goal

pub returns : goal.returns
returns c =
    let n = c.args.order in
    let w = c.args.region.now in
    let all = c.in_ok-inspect_structures.ensures in
    let after = c.inspect_structures.new.marks in
    let many : c.in-Ok.marks.len ≡ length after = omega (arith, c.in-Ok.marks.ok.0, c.in-Ok.ensures.as_long, all.2.as_long) in
    let same : c.deref.result.now ≡ after = c.deref.ensures.value ∙ (ap (λ (k : ℕ). take k (after ++ drop (length after) c.in-Ok.marks.items)) many ∙ take-append_seam after (drop (length after) c.in-Ok.marks.items)) in
    let marked : IsMarked (taken_by n all.0) c.deref.result.now = subst (λ (ms : List Bool). IsMarked (taken_by n all.0) ms) (sym same) all.2.marked in
    after_tree c.args.version n w all.0 c.inspect_marked.result c.requires.sized all.1 (c.inspect_marked.ensures (taken_by n all.0) marked)
