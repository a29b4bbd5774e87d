use Rattle.std.proofs.Common.{◌<◌, ◌++◌, ◌∷◌, [], length, take, ap, sym, ◌∙◌, arith}
use Rattle.std.proofs.lemmas.List.{take_more}
use Rattle.std.proofs.lemmas.Option.{get_or_from_slice_get}
use Rattle.rom_script.proofs.script.whole_lines.Goals as goal

pub loop-i-preserved : goal.loop-i-preserved
loop-i-preserved c =
    let lines = c.args.script.now.items in
    let i = c.loop-i.i in
    let line = c.whole.result in
    let lt : i < length lines = omega (arith, c.loop-i-test.true, c.len-i-end.ensures) in
    c.in_ok-push.ensures.items ∙ ap (λ l. l ++ line ∷ []) c.loop-i.invariant
    ∙ sym (take_more lines i line lt ∙ ap (λ x. take i lines ++ x ∷ []) (get_or_from_slice_get lines i line line c.whole.ensures))
