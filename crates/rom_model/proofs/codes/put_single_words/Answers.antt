use Rattle.std.proofs.Common.{ap, ◌∙◌, ◌++◌}
use Rattle.rom_model.specs.Codes.{single_words, words_call}
use Rattle.rom_model.proofs.Tags.{plain_back}
use Rattle.rom_model.proofs.codes.put_single_words.Goals as goal

pub returns-clause-back : goal.returns-clause-back
returns-clause-back c = ap words_call (c.push_single.ensures.added ∙ ap (λ words. words ++ single_words c.args.single) c.clear.ensures) ∙ plain_back c.args.single
