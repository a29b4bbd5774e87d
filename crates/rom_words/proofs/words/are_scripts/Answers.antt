use Rattle.std.proofs.Common.{rules, ◌∙◌}
use Rattle.rom_words.proofs.Saying.{scripts_few}
use Rattle.rom_words.proofs.words.are_scripts.Goals as goal

pub returns-then-contains-clause-named : goal.returns-then-contains-clause-named
returns-then-contains-clause-named c = c.are_full.ensures ∙ scripts_few c.args.words.now (search rules) (search rules)
