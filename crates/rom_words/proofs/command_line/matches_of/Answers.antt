use Rattle.std.proofs.Common.{◌≡◌, ◌∙◌, ap, option_map, subst, sym}
use Rattle.std.proofs.lemmas.Result.{IfErr-weaker, IfOk-weaker}
use Rattle.clap.specs.Words.{app_of, is_simple, subcommand_of, takes}
use Rattle.rom_words.specs.CommandLine.{MatchesHave, command_line}
use Rattle.rom_words.specs.Wanted.{texts}
use Rattle.rom_words.proofs.Matching.{matched, taken_where_some}
use Rattle.rom_words.proofs.Shapes.{has_try}
use Rattle.rom_words.proofs.command_line.matches_of.Goals as goal

pub returns-clause-ok : goal.returns-clause-ok
returns-clause-ok c =
    let app_is : app_of c.in_ok-command_line.field-0 ≡ command_line = c.in_ok-command_line.ensures in
    IfOk-weaker c.try_get_matches_from.result _ _
    (λ m has asked e.
    let found = matched (texts c.args.words.now) asked e in
    subst (MatchesHave asked) (sym (ap (option_map (λ p. p.1)) ((has (ap is_simple app_is ∙ has_try.simple)).1 ∙ ap (λ a. subcommand_of a (texts c.args.words.now)) app_is) ∙ found.its)) found.has)
    c.try_get_matches_from.ensures.matches

pub returns-clause-err : goal.returns-clause-err
returns-clause-err c =
    let app_is : app_of c.in_ok-command_line.field-0 ≡ command_line = c.in_ok-command_line.ensures in
    IfErr-weaker c.try_get_matches_from.result _ _
    (λ e h. h (ap (λ a. takes a (texts c.args.words.now)) app_is ∙ taken_where_some (texts c.args.words.now) c.requires)) c.try_get_matches_from.ensures.passes
