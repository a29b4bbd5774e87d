use Rattle.std.proofs.Common.{◌≡◌, List, ℕ, Some, sym, ap, ◌∙◌}
use Rattle.rom_ledger.specs.State as state
use Rattle.rom_ledger.specs.Codes.{words_conditional}
use Rattle.rom_ledger.proofs.Worded.{own_done}
use Rattle.rom_ledger.proofs.ledger.apply_tagged.Goals as goal

pub returns-clause-done : goal.returns-clause-done
returns-clause-done g c s k held =
    let n = c.args.order in
    let own = c.unwrap-own.result in
    let read : words_conditional c.args.words.now ≡ Some own = ap (λ (ws : List ℕ). words_conditional ws) (sym c.as_slice.ensures.words) ∙ (sym c.words_conditional.ensures ∙ c.unwrap-own.ensures) in
    let done = c.apply_conditional.ensures.done s k held in
    ((state.conditional n s k own).0, own_done c.args.words.now own read n s k c.apply_conditional.result c.put_told.new.words done.0 c.put_told.ensures, done.1)
