-- The words of the call are posted, and the reply is read from the words that are left.
use Rattle.std.proofs.Common.{◌≡◌, ◌∙◌, List, ℕ, subst, sym}
use Rattle.rom_model.specs.declared.call.Updated.{Updated}
use Rattle.rom_store.specs.Updating.{HasUpdated}
use Rattle.rom_store.proofs.store.Store.update.Goals as goal

pub returns : goal.returns
returns g c =
    let o = g.O.Object in
    let words_are : c.as_slice.result.now ≡ o.machine.call_words c.args.call.now = c.as_slice.ensures.words ∙ c.put_call_words.ensures.words in
    subst (λ (z : List ℕ × Updated _). HasUpdated o.machine o.Contents g.N.Label.table g.N.Label.base z.0 z.1 c.args.pass.now c.update_words-became.new.pass)
    (λ j. (words_are j, sym c.updated_by.ensures j)) c.update_words-became.ensures.updated
