use Rattle.std.proofs.Common.{◌≡◌, ℕ, List, false, None, sym, ap, ◌∙◌}
use Rattle.rom_ledger.specs.Codes.{is_tagged, words_conditional}
use Rattle.rom_ledger.proofs.Worded.{none_tagged, heap_words}
use Rattle.rom_ledger.proofs.ledger.LedgerObject.apply_words.Goals as goal

pub returns-else-is_tagged-clause-done : goal.returns-else-is_tagged-clause-done
returns-else-is_tagged-clause-done g c s k held =
    let other : is_tagged c.args.words.now ≡ false = ap (λ (ws : List ℕ). is_tagged ws) (sym c.as_slice.ensures.words) ∙ (sym c.is_tagged.ensures ∙ c.if-is_tagged.false) in
    let none : words_conditional c.args.words.now ≡ None = none_tagged c.args.words.now other in
    let done = c.apply_words.ensures.done s k held in
    (done.0, heap_words c.args.words.now none c.args.order s k ∙ done.1, done.2)
