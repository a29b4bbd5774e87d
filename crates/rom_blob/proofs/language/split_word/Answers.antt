use Rattle.std.proofs.Common.{◌≡◌, [], ◌∷◌, sym, subst, arith, eq-eqb}
use Rattle.std.specs.Prelude.{IfNone, slice_index}
use Rattle.std.proofs.lemmas.Bool.{eqb-true}
use Rattle.rom_text.specs.Phrases.{line_words}
use Rattle.rom_blob.proofs.Words.{no_split, split_at}
use Rattle.rom_blob.proofs.language.split_word.Goals as goal

pub returns-in_err-at-clause-none : goal.returns-in_err-at-clause-none
returns-in_err-at-clause-none c =
    let text = c.args.text.now in
    subst (λ o. IfNone o (line_words text ≡ text ∷ [])) (sym c.from_residual.ensures) (no_split text (λ k lt is. c.in_err-at.ensures k (omega arith) lt (eq-eqb (slice_index text k) 32 is)))

pub returns-clause-some : goal.returns-clause-some
returns-clause-some c =
    let text = c.args.text.now in
    let at = c.in_ok-at.at in
    let found = c.in_ok-at.ensures in
    split_at text at found.0.high (λ k lt is. found.0.before k (omega arith) lt (eq-eqb (slice_index text k) 32 is)) (eqb-true (slice_index text at) 32 found.1)
