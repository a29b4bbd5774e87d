use Rattle.std.proofs.Common.{◌≢◌, ℕ, List, ◌≤◌, length, IfNone, sym, subst}
use Rattle.rom_text.specs.Phrases.{NumbersFit, line_words, phrase_words}
use Rattle.rom_text.proofs.Phrases.{behind_space, no_number}
use Rattle.rom_text.proofs.phrase.read_phrase.Goals as goal

pub returns-in_err-number-clause-none : goal.returns-in_err-number-clause-none
returns-in_err-number-clause-none c =
    let more = c.first_word-in-len1-up.result.1.now in
    let next = behind_space _ _ more c.in-len1-up.len_at_least c.first_word-in-len1-up.ensures.words in
    let none = no_number c.args.line.now _ _ _ more _ c.loop-rest.invariant.words next c.in_err-number.ensures.none in
    subst (λ o. IfNone o ((name numbers : List ℕ) → length numbers ≤ 3 → NumbersFit numbers → line_words c.args.line.now ≢ phrase_words name numbers)) (sym c.from_residual.ensures) none
