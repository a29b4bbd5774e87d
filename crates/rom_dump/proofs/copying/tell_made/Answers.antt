use Rattle.std.proofs.Common.{◌≡◌, List, [], ℕ, ◌++◌, ◌∙◌, codes, decimal, refl, subst, append-nil}
use Rattle.std.proofs.lemmas.List.{append_assoc}
use Rattle.rom_text.specs.Runs.{IsLineWrittenOrCutShort}
use Rattle.rom_dump.specs.Copying.{made_word}
use Rattle.rom_dump.proofs.copying.tell_made.Goals as goal

five_pieces : (m a b c d : List ℕ) → m ++ (a ++ (b ++ (c ++ (d ++ [])))) ≡ m ++ a ++ b ++ c ++ d
five_pieces m a b c d = simp (append_assoc, append-nil) refl

pub returns-clause-told : goal.returns-clause-told
returns-clause-told g c =
    let made : c.word_of.result.now ≡ made_word c.args.made = c.word_of.ensures in
    let order : c.format-order.result.now ≡ decimal c.args.order = c.format-order.ensures.text in
    let count : c.format-count.result.now ≡ decimal c.args.count = c.format-count.ensures.text in
    subst (λ line. IsLineWrittenOrCutShort g.O.Sink.shown c.args.out.now c.tell.new.out line)
    (five_pieces c.word_of.result.now (codes " order ") c.format-order.result.now (codes " count ") c.format-count.result.now
    ∙ (λ i. made i ++ codes " order " ++ order i ++ codes " count " ++ count i)) c.tell.ensures.told
