use Rattle.std.proofs.Common.{◌≡◌, ◌∙◌, [], sym, subst, arith}
use Rattle.std.specs.Prelude.{Result, Ok, Err}
use Rattle.std.proofs.lemmas.Grind.{common_steps}
use Rattle.rom_model.specs.declared.unfit.Break.{Break}
use Rattle.rom_heap.specs.Parts.{Root, Structures, AnswersPart}
use Rattle.rom_heap.proofs.Whole.{root_passed, in_queue, in_set, after_set}
use Rattle.rom_heap.proofs.inspect.inspection.inspect_structures.Goals as goal

pub returns-in_err-inspect_queue : goal.returns-in_err-inspect_queue
returns-in_err-inspect_queue c =
    let n = c.args.order in
    let w = c.args.region.now in
    let e = c.in_err-inspect_queue.field-0.0 in
    let root : Root c.args.version n w (Ok []) = root_passed c.args.version n w (sym c.inspect_root.ensures ∙ c.in_ok-inspect_root.was) in
    let broke : AnswersPart n (Structures c.args.version n w) (Err e) c.inspect_queue.new.marks = in_queue c.args.version n w e root (c.in_err-inspect_queue.ensures [] c.requires.marks) in
    let is : c.from_residual-in_err-inspect_queue.result ≡ Err e = grind (arith, common_steps) in
    subst (λ (r : Result (Unit {0}) Break). AnswersPart n (Structures c.args.version n w) r c.inspect_queue.new.marks) (sym is) broke

pub returns-in_err-inspect_set : goal.returns-in_err-inspect_set
returns-in_err-inspect_set c =
    let n = c.args.order in
    let w = c.args.region.now in
    let e = c.in_err-inspect_set.field-0.0 in
    let root : Root c.args.version n w (Ok []) = root_passed c.args.version n w (sym c.inspect_root.ensures ∙ c.in_ok-inspect_root.was) in
    let q = c.in_ok-inspect_queue.ensures [] c.requires.marks in
    let broke : AnswersPart n (Structures c.args.version n w) (Err e) c.inspect_set.new.marks = in_set c.args.version n w q.0 e root q.1 (c.in_err-inspect_set.ensures q.0 q.2) in
    let is : c.from_residual-in_err-inspect_set.result ≡ Err e = grind (arith, common_steps) in
    subst (λ (r : Result (Unit {0}) Break). AnswersPart n (Structures c.args.version n w) r c.inspect_set.new.marks) (sym is) broke

pub inspect_map-requires-clause-marks : goal.inspect_map-requires-clause-marks
inspect_map-requires-clause-marks c =
    let q = c.in_ok-inspect_queue.ensures [] c.requires.marks in
    let s = c.in_ok-inspect_set.ensures q.0 q.2 in
    (s.0, s.2)

pub returns : goal.returns
returns c =
    let n = c.args.order in
    let w = c.args.region.now in
    let root : Root c.args.version n w (Ok []) = root_passed c.args.version n w (sym c.inspect_root.ensures ∙ c.in_ok-inspect_root.was) in
    let q = c.in_ok-inspect_queue.ensures [] c.requires.marks in
    let s = c.in_ok-inspect_set.ensures q.0 q.2 in
    after_set c.args.version n w q.0 s.0 c.inspect_map.result c.inspect_map.new.marks root q.1 s.1 (c.inspect_map.ensures s.0 s.2)
