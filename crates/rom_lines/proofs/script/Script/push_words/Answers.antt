use Rattle.std.proofs.Common.{◌≡◌, ◌∙◌, length, ◌≤◌, arith}
use Rattle.std.proofs.lemmas.Result.{MatchResult-from_err}
use Rattle.rom_model.specs.declared.words.TheConstants.{CALL_WORDS}
use Rattle.rom_lines.proofs.Steps.{steps_stay, own_words, steps_behind}
use Rattle.rom_lines.proofs.script.Script.push_words.Goals as goal

pub returns-in_err-push-clause-err : goal.returns-in_err-push-clause-err
returns-in_err-push-clause-err g c =
    let wc = g.O.Object.machine.words_call in
    MatchResult-from_err c.from_residual-in_err-push.result _ _ c.from_residual-in_err-push.ensures.0
    (λ _. rw (← c.self.view_is, c.in_ok-extend_from_slice.ensures.items, c.in_err-push.ensures.items)
    (steps_stay wc c.self.inside.words.items c.as_slice.result.now c.self.inside.cells.items c.self.invariant.0))

pub invariant_of-self-2 : goal.invariant_of-self-2
invariant_of-self-2 g c =
    let wc = g.O.Object.machine.words_call in
    let few : length c.args.words.now ≤ CALL_WORDS = omega (arith, c.len.ensures.within, c.len.ensures.many) in
    let e1 : c.len.result ≡ length c.args.words.now = c.len.ensures.many in
    let e2 : c.len-from.result ≡ length c.self.inside.words.items = c.len-from.ensures ∙ c.self.inside.words.ok.0 in
    rw (c.in_ok-extend_from_slice.ensures.items, c.in_ok-push.ensures.items, c.as_slice.ensures.words, e1, e2)
    (own_words wc c.self.inside.words.items c.args.words.now c.self.inside.cells.items c.self.invariant few c.requires.call)

pub returns-clause-added : goal.returns-clause-added
returns-clause-added g c call e =
    let wc = g.O.Object.machine.words_call in
    let e1 : c.len.result ≡ length c.args.words.now = c.len.ensures.many in
    let e2 : c.len-from.result ≡ length c.self.inside.words.items = c.len-from.ensures ∙ c.self.inside.words.ok.0 in
    rw (← c.self.view_is, c.in_ok-extend_from_slice.ensures.items, c.in_ok-push.ensures.items, c.as_slice.ensures.words, e1, e2)
    (steps_behind wc c.self.inside.words.items c.args.words.now c.self.inside.cells.items call c.self.invariant.0 e)
