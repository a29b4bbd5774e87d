use Rattle.std.proofs.Common.{◌≡◌, ◌<◌, length, slice_index, sym, ◌∙◌, ◌∷◌, arith}
use Rattle.rom_text.specs.Phrases.{words_behind}
use Rattle.rom_text.proofs.Phrases.{first_word_is}
use Rattle.rom_text.proofs.phrase.first_word.Goals as goal
use Rattle.rom_text.proofs.phrase.first_word.Goals.{then-loop-len-test+else-line-len-ne32, else-loop-len-test}

pub returns-clause-words : goal.returns-clause-words
returns-clause-words c =
    let found : c.loop-len.len < length c.args.line.now → slice_index c.args.line.now c.loop-len.len ≡ 32 =
    elim c.loop-len-test.branch [ then-loop-len-test+else-line-len-ne32 w ↦ λ lt. omega arith | else-loop-len-test w ↦ λ lt. absurd (omega arith) ] in
    first_word_is c.args.line.now c.loop-len.len c.loop-len.invariant.within c.loop-len.invariant.before found
    ∙ (λ i. sym c.split_at.ensures.front i ∷ words_behind (sym c.split_at.ensures.back i))
