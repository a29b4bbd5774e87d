use Rattle.std.proofs.Common.{◌≡◌, ◌+◌, ◌-◌, ◌∙◌, sym, subst, arith, ◌∷◌}
use Rattle.std.specs.Prelude.{Some, Result, Err, slice_index}
use Rattle.std.proofs.lemmas.Grind.{common_steps}
use Rattle.rom_model.specs.declared.unfit.Break.{Break}
use Rattle.rom_order_region.proofs.Frame.{node_within, node_small}
use Rattle.rom_order_region.specs.declared.inspection.Reached.{Reached}
use Rattle.rom_order_region.specs.Marks.{HasWalkedTree, AnswersSub}
use Rattle.rom_order_region.proofs.Asked.{region_small}
use Rattle.rom_order_region.proofs.Subtrees.{height_small, count_small, bottom_ok, bottom_err, none_linked, astray, entry_broke, left_broke, right_broke, height_broke, walked}
use Rattle.rom_order_region.proofs.inspection.+inspect_subtree.Goals as goal

pub returns-in_err-check_word : goal.returns-in_err-check_word
returns-in_err-check_word t c seen are =
    let e = c.in_err-check_word.field-0.0 in
    let is : c.from_residual.result ≡ Err e = grind (arith, common_steps) in
    subst (λ (r : Result Reached Break). AnswersSub c.args.levels c.args.order c.args.region.now seen c.args.link c.args.low c.args.high r c.args.marks.now) (sym is)
    (bottom_err c.args.order c.args.region.now seen c.args.link c.args.low c.args.high c.args.marks.now c.args.levels e c.if-levels-eq0.true (sym c.check_word.ensures ∙ c.in_err-check_word.was))

pub returns-then-levels-eq0 : goal.returns-then-levels-eq0
returns-then-levels-eq0 t c seen are =
    bottom_ok c.args.order c.args.region.now seen c.args.link c.args.low c.args.high c.args.marks.now c.args.levels c.if-levels-eq0.true are (sym c.check_word.ensures ∙ c.in_ok-check_word.was)

pub returns-then-region-link-eq0 : goal.returns-then-region-link-eq0
returns-then-region-link-eq0 t c seen are = none_linked c.args.order c.args.region.now seen c.args.link c.args.low c.args.high c.args.marks.now c.args.levels c.if-levels-eq0.false are c.if-region-link-eq0.true

pub returns-in_err-node : goal.returns-in_err-node
returns-in_err-node t c seen are =
    let e = c.in_err-node.field-0.0 in
    let is : c.from_residual-in_err-node.result ≡ Err e = grind (arith, common_steps) in
    subst (λ (r : Result Reached Break). AnswersSub c.args.levels c.args.order c.args.region.now seen c.args.link c.args.low c.args.high r c.follow.new.marks) (sym is)
    (astray c.args.order c.args.region.now seen c.args.link c.args.low c.args.high c.follow.new.marks c.args.levels c.if-levels-eq0.false c.if-region-link-eq0.false e (c.in_err-node.ensures seen are))

pub inspect_entry-requires-clause-within : goal.inspect_entry-requires-clause-within
inspect_entry-requires-clause-within t c =
    let m = c.requires.marks in
    let at = c.in_ok-node.ensures m.0 m.1 in
    omega (arith, at.here, node_within c.args.order at.block c.requires.order at.leads.most, c.requires.sized)

pub inspect_entry-requires-clause-small : goal.inspect_entry-requires-clause-small
inspect_entry-requires-clause-small t c = omega (arith, c.requires.sized, region_small c.args.order c.requires.order)

pub returns-in_err-inspect_entry : goal.returns-in_err-inspect_entry
returns-in_err-inspect_entry t c seen are =
    let n = c.args.order in
    let w = c.args.region.now in
    let at = c.in_ok-node.ensures seen are in
    let e = c.in_err-inspect_entry.field-0.0 in
    let is : c.from_residual-in_err-inspect_entry.result ≡ Err e = grind (arith, common_steps) in
    subst (λ (r : Result Reached Break). AnswersSub c.args.levels n w seen c.args.link c.args.low c.args.high r c.follow.new.marks) (sym is)
    (entry_broke n w seen c.args.link c.args.low c.args.high c.follow.new.marks c.args.levels c.if-levels-eq0.false c.if-region-link-eq0.false at.block at.leads e (sym (c.inspect_entry.ensures at.block at.here) ∙ c.in_err-inspect_entry.was))

pub bounds-region-node : goal.bounds-region-node
bounds-region-node t c =
    let m = c.requires.marks in
    let at = c.in_ok-node.ensures m.0 m.1 in
    omega (arith, at.here, node_within c.args.order at.block c.requires.order at.leads.most, c.requires.sized)

pub overflow_add-node : goal.overflow_add-node
overflow_add-node t c =
    let m = c.requires.marks in
    let at = c.in_ok-node.ensures m.0 m.1 in
    omega (arith, at.here, node_small c.args.order at.block c.requires.order at.leads.most)

pub overflow_add-node-2 : goal.overflow_add-node-2
overflow_add-node-2 t c =
    let m = c.requires.marks in
    let at = c.in_ok-node.ensures m.0 m.1 in
    omega (arith, at.here, node_small c.args.order at.block c.requires.order at.leads.most)

pub inspect_subtree-requires : goal.inspect_subtree-requires
inspect_subtree-requires t c =
    let m = c.requires.marks in
    let at = c.in_ok-node.ensures m.0 m.1 in
    (omega (arith, c.decreases, c.if-levels-eq0.false), (c.requires.order, (c.requires.sized, (omega (arith, at.here, node_within c.args.order at.block c.requires.order at.leads.most, c.requires.sized), (at.block ∷ m.0, at.marked)))))

pub inspect_subtree-requires-2 : goal.inspect_subtree-requires-2
inspect_subtree-requires-2 t c =
    let m = c.requires.marks in
    let at = c.in_ok-node.ensures m.0 m.1 in
    let left = c.in_ok-left.ensures (at.block ∷ m.0) at.marked in
    (omega (arith, c.decreases, c.if-levels-eq0.false), (c.requires.order, (c.requires.sized, (omega (arith, at.here, node_within c.args.order at.block c.requires.order at.leads.most, c.requires.sized), (left.sub.seen, left.marked)))))

pub returns-in_err-left : goal.returns-in_err-left
returns-in_err-left t c seen are =
    let n = c.args.order in
    let w = c.args.region.now in
    let at = c.in_ok-node.ensures seen are in
    let holds = sym (c.inspect_entry.ensures at.block at.here) ∙ c.in_ok-inspect_entry.was in
    let e = c.in_err-left.field-0.0 in
    let is : c.from_residual-in_err-left.result ≡ Err e = grind (arith, common_steps) in
    subst (λ (r : Result Reached Break). AnswersSub c.args.levels n w seen c.args.link c.args.low c.args.high r c.inspect_subtree.new.marks) (sym is)
    (left_broke n w seen c.args.link c.args.low c.args.high c.inspect_subtree.new.marks c.args.levels c.if-levels-eq0.false c.if-region-link-eq0.false at.block at.leads holds e (subst (λ a. AnswersSub (c.args.levels - 1) n w (at.block ∷ seen) (a + 2) c.args.low (Some (slice_index w a)) (Err e) c.inspect_subtree.new.marks) at.here (c.in_err-left.ensures (at.block ∷ seen) at.marked)))

pub returns-in_err-right : goal.returns-in_err-right
returns-in_err-right t c seen are =
    let n = c.args.order in
    let w = c.args.region.now in
    let at = c.in_ok-node.ensures seen are in
    let holds = sym (c.inspect_entry.ensures at.block at.here) ∙ c.in_ok-inspect_entry.was in
    let left = subst (λ a. HasWalkedTree (c.args.levels - 1) n w (at.block ∷ seen) (a + 2) c.args.low (Some (slice_index w a)) c.in_ok-left.left c.inspect_subtree.new.marks) at.here (c.in_ok-left.ensures (at.block ∷ seen) at.marked) in
    let e = c.in_err-right.field-0.0 in
    let is : c.from_residual-in_err-right.result ≡ Err e = grind (arith, common_steps) in
    subst (λ (r : Result Reached Break). AnswersSub c.args.levels n w seen c.args.link c.args.low c.args.high r c.inspect_subtree-2.new.marks) (sym is)
    (right_broke n w seen c.args.link c.args.low c.args.high c.inspect_subtree-2.new.marks c.args.levels c.if-levels-eq0.false c.if-region-link-eq0.false at.block at.leads holds left e (subst (λ a. AnswersSub (c.args.levels - 1) n w left.sub.seen (a + 3) (Some (slice_index w a)) c.args.high (Err e) c.inspect_subtree-2.new.marks) at.here (c.in_err-right.ensures left.sub.seen left.marked)))

pub inspect_height-requires-clause-within : goal.inspect_height-requires-clause-within
inspect_height-requires-clause-within t c =
    let m = c.requires.marks in
    let at = c.in_ok-node.ensures m.0 m.1 in
    omega (arith, at.here, node_within c.args.order at.block c.requires.order at.leads.most, c.requires.sized)

pub inspect_height-requires-clause-small : goal.inspect_height-requires-clause-small
inspect_height-requires-clause-small t c = omega (arith, c.requires.sized, region_small c.args.order c.requires.order)

pub inspect_height-requires-clause-left : goal.inspect_height-requires-clause-left
inspect_height-requires-clause-left t c =
    let m = c.requires.marks in
    let at = c.in_ok-node.ensures m.0 m.1 in
    let left = c.in_ok-left.ensures (at.block ∷ m.0) at.marked in
    height_small c.requires.order left

pub inspect_height-requires-clause-right : goal.inspect_height-requires-clause-right
inspect_height-requires-clause-right t c =
    let m = c.requires.marks in
    let at = c.in_ok-node.ensures m.0 m.1 in
    let left = c.in_ok-left.ensures (at.block ∷ m.0) at.marked in
    let right = c.in_ok-right.ensures left.sub.seen left.marked in
    height_small c.requires.order right

pub returns-in_err-inspect_height : goal.returns-in_err-inspect_height
returns-in_err-inspect_height t c seen are =
    let n = c.args.order in
    let w = c.args.region.now in
    let at = c.in_ok-node.ensures seen are in
    let holds = sym (c.inspect_entry.ensures at.block at.here) ∙ c.in_ok-inspect_entry.was in
    let left = subst (λ a. HasWalkedTree (c.args.levels - 1) n w (at.block ∷ seen) (a + 2) c.args.low (Some (slice_index w a)) c.in_ok-left.left c.inspect_subtree.new.marks) at.here (c.in_ok-left.ensures (at.block ∷ seen) at.marked) in
    let right = subst (λ a. HasWalkedTree (c.args.levels - 1) n w left.sub.seen (a + 3) (Some (slice_index w a)) c.args.high c.in_ok-right.right c.inspect_subtree-2.new.marks) at.here (c.in_ok-right.ensures left.sub.seen left.marked) in
    let e = c.in_err-inspect_height.field-0.0 in
    let is : c.from_residual-in_err-inspect_height.result ≡ Err e = grind (arith, common_steps) in
    subst (λ (r : Result Reached Break). AnswersSub c.args.levels n w seen c.args.link c.args.low c.args.high r c.inspect_subtree-2.new.marks) (sym is)
    (height_broke n w seen c.args.link c.args.low c.args.high c.inspect_subtree-2.new.marks c.args.levels c.if-levels-eq0.false c.if-region-link-eq0.false at.block at.leads holds left right e (sym (c.inspect_height.ensures at.block left.sub.tree right.sub.tree at.here left.height_is right.height_is) ∙ c.in_err-inspect_height.was))

pub overflow_add-result : goal.overflow_add-result
overflow_add-result t c =
    let m = c.requires.marks in
    let at = c.in_ok-node.ensures m.0 m.1 in
    let left = c.in_ok-left.ensures (at.block ∷ m.0) at.marked in
    let right = c.in_ok-right.ensures left.sub.seen left.marked in
    let one = height_small c.requires.order left in
    let two = height_small c.requires.order right in
    omega (arith, one, two, count_small c.requires.order left, count_small c.requires.order right, c.max.ensures)

pub overflow_add-result-2 : goal.overflow_add-result-2
overflow_add-result-2 t c =
    let m = c.requires.marks in
    let at = c.in_ok-node.ensures m.0 m.1 in
    let left = c.in_ok-left.ensures (at.block ∷ m.0) at.marked in
    let right = c.in_ok-right.ensures left.sub.seen left.marked in
    let one = height_small c.requires.order left in
    let two = height_small c.requires.order right in
    omega (arith, one, two, count_small c.requires.order left, count_small c.requires.order right, c.max.ensures)

pub overflow_add-result-3 : goal.overflow_add-result-3
overflow_add-result-3 t c =
    let m = c.requires.marks in
    let at = c.in_ok-node.ensures m.0 m.1 in
    let left = c.in_ok-left.ensures (at.block ∷ m.0) at.marked in
    let right = c.in_ok-right.ensures left.sub.seen left.marked in
    let one = height_small c.requires.order left in
    let two = height_small c.requires.order right in
    omega (arith, one, two, count_small c.requires.order left, count_small c.requires.order right, c.max.ensures)

pub returns : goal.returns
returns t c seen are =
    let n = c.args.order in
    let w = c.args.region.now in
    let at = c.in_ok-node.ensures seen are in
    let holds = sym (c.inspect_entry.ensures at.block at.here) ∙ c.in_ok-inspect_entry.was in
    let left = subst (λ a. HasWalkedTree (c.args.levels - 1) n w (at.block ∷ seen) (a + 2) c.args.low (Some (slice_index w a)) c.in_ok-left.left c.inspect_subtree.new.marks) at.here (c.in_ok-left.ensures (at.block ∷ seen) at.marked) in
    let right = subst (λ a. HasWalkedTree (c.args.levels - 1) n w left.sub.seen (a + 3) (Some (slice_index w a)) c.args.high c.in_ok-right.right c.inspect_subtree-2.new.marks) at.here (c.in_ok-right.ensures left.sub.seen left.marked) in
    walked n w seen c.args.link c.args.low c.args.high c.inspect_subtree-2.new.marks c.args.levels c.if-levels-eq0.false c.if-region-link-eq0.false at.block at.leads holds left right c.max.result c.max.ensures (sym (c.inspect_height.ensures at.block left.sub.tree right.sub.tree at.here left.height_is right.height_is) ∙ c.in_ok-inspect_height.was)
