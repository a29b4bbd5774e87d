use Rattle.std.proofs.Common.{◌≡◌, ℕ, ◌++◌, ◌∙◌, sym, ap, subst, arith, List, Bool, length, take, drop}
use Rattle.std.proofs.Math.Seq.{take-append_seam}
use Rattle.rom_block.specs.Levels.{IsMarked}
use Rattle.rom_blob_region.specs.State.{taken_with}
use Rattle.rom_blob_region.specs.Walks.{held}
use Rattle.rom_blob_region.proofs.Ending.{tree_ended}
use Rattle.rom_blob_region.proofs.inspect.inspection.inspect_all.Goals as goal

pub returns : goal.returns
returns c =
    let n = c.args.order in
    let w = c.args.region.now in
    let all = c.in_ok-inspect_keys.ensures in
    let after = c.inspect_keys.new.marks in
    let T = taken_with (held n w all.0) in
    let many : c.in-Ok.marks.len ≡ length after = omega (arith, c.in-Ok.marks.ok.0, c.in-Ok.ensures.as_long, all.4.as_long) in
    let same : c.deref.result.now ≡ after = c.deref.ensures.value ∙ (ap (λ (k : ℕ). take k (after ++ drop (length after) c.in-Ok.marks.items)) many ∙ take-append_seam after (drop (length after) c.in-Ok.marks.items)) in
    let marked : IsMarked T c.deref.result.now = subst (λ (ms : List Bool). IsMarked T ms) (sym same) all.4.marked in
    tree_ended n w all.2 all.0 c.inspect_marked.result c.requires.order c.requires.sized all.1 all.3 (c.inspect_marked.ensures T marked)
