use Rattle.std.proofs.Common.{◌≡◌, ◌∷◌, rules, ap, ◌∙◌, sym}
use Rattle.rom_words.specs.Wanted.{named}
use Rattle.rom_words.specs.Words.{command}
use Rattle.rom_words.proofs.Saying.{unsaid}
use Rattle.rom_words.proofs.words.read_command.Goals as goal

pub returns-in_err-said-clause-named : goal.returns-in_err-said-clause-named
returns-in_err-said-clause-named c =
    let words : c.args.words.now ≡ c.in_ok-name.name.now ∷ c.in_ok-name.words.now = search rules in
    ap named c.from_residual-in_err-said.ensures ∙ sym (ap command words ∙ unsaid c.in_ok-name.name.now c.in_ok-name.words.now (search rules))
