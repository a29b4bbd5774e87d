use Rattle.std.proofs.Common.{◌≡◌, ◌∙◌, [], sym, subst, arith}
use Rattle.std.specs.Prelude.{Result, Ok, Err, None}
use Rattle.std.proofs.lemmas.Grind.{common_steps}
use Rattle.rom_model.specs.declared.unfit.Break.{Break}
use Rattle.rom_order_region.specs.Marks.{AnswersNodes, AnswersSub}
use Rattle.rom_order_region.proofs.Subtrees.{root_broke, nodes_broke, nodes_sized}
use Rattle.rom_order_region.proofs.inspection.inspect_nodes.Goals as goal

pub returns-in_err-inspect_root : goal.returns-in_err-inspect_root
returns-in_err-inspect_root c =
    let e = c.in_err-inspect_root.field-0.0 in
    let is : c.from_residual.result ≡ Err e = grind (arith, common_steps) in
    subst (λ (r : Result (Unit {0}) Break). AnswersNodes c.args.order c.args.region.now r c.args.marks.now) (sym is) (root_broke c.args.order c.args.region.now c.args.marks.now e (sym c.inspect_root.ensures ∙ c.in_err-inspect_root.was))

pub inspect_subtree-requires-clause-marks : goal.inspect_subtree-requires-clause-marks
inspect_subtree-requires-clause-marks c = ([], c.requires.marks)

pub returns-in_err-reached : goal.returns-in_err-reached
returns-in_err-reached c =
    let e = c.in_err-reached.field-0.0 in
    let is : c.from_residual-in_err-reached.result ≡ Err e = grind (arith, common_steps) in
    subst (λ (r : Result (Unit {0}) Break). AnswersNodes c.args.order c.args.region.now r c.inspect_subtree.new.marks) (sym is)
    (nodes_broke c.args.order c.args.region.now c.inspect_subtree.new.marks (sym c.inspect_root.ensures ∙ c.in_ok-inspect_root.was) e (subst (λ d. AnswersSub d c.args.order c.args.region.now [] 3 None None (Err e) c.inspect_subtree.new.marks) c.levels.ensures (c.in_err-reached.ensures [] c.requires.marks)))

pub returns : goal.returns
returns c =
    nodes_sized c.args.order c.args.region.now c.inspect_subtree.new.marks (sym c.inspect_root.ensures ∙ c.in_ok-inspect_root.was) c.check_word.result (subst (λ d. AnswersSub d c.args.order c.args.region.now [] 3 None None (Ok c.in_ok-reached.reached) c.inspect_subtree.new.marks) c.levels.ensures (c.in_ok-reached.ensures [] c.requires.marks)) c.check_word.ensures
