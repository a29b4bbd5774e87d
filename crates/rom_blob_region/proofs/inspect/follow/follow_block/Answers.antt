use Rattle.std.proofs.Common.{◌≡◌, ℕ, ◌∙◌, refl, sym, subst, arith, true, false}
use Rattle.rom_model.specs.Blocks.{any_in}
use Rattle.rom_block.specs.Walk.{Clear}
use Rattle.rom_blob_region.specs.State.{taken_with}
use Rattle.rom_blob_region.specs.Walks.{LeadsToBlob}
use Rattle.rom_blob_region.proofs.Blocks.{none_over, apart_next}
use Rattle.rom_blob_region.proofs.Placing.{one_node, node_inside, node_of}
use Rattle.rom_blob_region.proofs.Marking.{mark_more}
use Rattle.rom_blob_region.proofs.inspect.follow.follow_block.Goals.{then-is_marked_above-via-then-is_marked_above, then-is_marked_above-via-else-is_marked_above+then-is_marked_in}
use Rattle.rom_blob_region.proofs.inspect.follow.follow_block.Goals as goal

pub is_marked_above-requires : goal.is_marked_above-requires
is_marked_above-requires c = record { node = omega (arith, node_inside c.args.order c.args.want c.in-Some.node c.requires.order.least c.requires.want c.in-Some.ensures.0, c.requires.marks.1.as_long) }

pub is_marked_in-requires-clause-node : goal.is_marked_in-requires-clause-node
is_marked_in-requires-clause-node c = node_of c.args.order c.args.want c.in-Some.node c.requires.order.least c.requires.want c.in-Some.ensures.0

pub bounds-marks-node : goal.bounds-marks-node
bounds-marks-node c = omega (arith, node_inside c.args.order c.args.want c.in-Some.node c.requires.order.least c.requires.want c.in-Some.ensures.0, c.requires.marks.1.as_long)

-- what meets a block leads nowhere
pub returns-then-is_marked_above : goal.returns-then-is_marked_above
returns-then-is_marked_above c held are = (
  (λ x leads.
      let at = c.in-Some.ensures in
      let T = taken_with held in
      let same : x ≡ c.in-Some.node = one_node c.args.order c.args.want _ c.requires.order.least c.requires.want x c.in-Some.node leads.node leads.here at.0 at.1 in
      let clear : Clear T c.args.want c.in-Some.node = subst (λ (y : ℕ). Clear T c.args.want y) same leads.clear in
      elim c.then-is_marked_above.branch [
        | then-is_marked_above-via-then-is_marked_above w ↦ w.if-is_marked_above.ensures T are.marked (none_over c.args.order held are.apart) clear.above
        | then-is_marked_above-via-else-is_marked_above+then-is_marked_in w ↦ absurd (let some : true ≡ any_in T c.args.want c.in-Some.node = w.if-is_marked_in.ensures T are.marked in let never : true ≡ false = some ∙ clear.below in cc)
      ]),
  refl,
)

pub returns : goal.returns
returns c held are =
    let n = c.args.order in
    let want = c.args.want in
    let x = c.in-Some.node in
    let at = c.in-Some.ensures in
    let T = taken_with held in
    let clear : Clear T want x = record { above = c.if-is_marked_above.ensures T are.marked (none_over n held are.apart); below = sym (c.if-is_marked_in.ensures T are.marked) } in
    let leads : LeadsToBlob n c.args.region.now held c.args.link want x = record { here = at.1; node = at.0; clear = clear } in
    (leads, mark_more n x held c.args.marks.now (node_inside n want x c.requires.order.least c.requires.want at.0) are (apart_next n want x held (omega (arith, c.requires.want, c.requires.order.least)) at.0 clear are.apart))
