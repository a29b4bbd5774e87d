use Rattle.std.proofs.Common.{◌≡◌, ◌∙◌, sym, subst, arith}
use Rattle.std.specs.Prelude.{Result, Err}
use Rattle.std.proofs.lemmas.Grind.{common_steps}
use Rattle.rom_model.specs.declared.unfit.Break.{Break}
use Rattle.rom_heap.specs.Parts.{Queue, AnswersPart}
use Rattle.rom_heap.proofs.Ending.{queue_broke, queue_ended}
use Rattle.rom_heap.proofs.inspect.parts.inspect_queue.Goals as goal

pub returns-in_err-check_word : goal.returns-in_err-check_word
returns-in_err-check_word c seen are =
    let n = c.args.order in
    let w = c.args.region.now in
    let go = c.in_ok-reached.ensures seen are in
    let e = c.in_err-check_word.field-0.0 in
    let broke : AnswersPart n (Queue n w seen) (Err e) c.go.new.marks = queue_broke n w seen go.blocks c.go.new.marks c.in_ok-reached.reached e go.walks go.known go.marked (sym c.check_word.ensures ∙ c.in_err-check_word.was) in
    let is : c.from_residual-in_err-check_word.result ≡ Err e = grind (arith, common_steps) in
    subst (λ (r : Result (Unit {0}) Break). AnswersPart n (Queue n w seen) r c.go.new.marks) (sym is) broke

pub returns : goal.returns
returns c seen are =
    let go = c.in_ok-reached.ensures seen are in
    queue_ended c.args.order c.args.region.now seen go.blocks c.go.new.marks c.in_ok-reached.reached c.check_word-2.result go.walks go.known go.marked (sym c.check_word.ensures ∙ c.in_ok-check_word.was) c.check_word-2.ensures
