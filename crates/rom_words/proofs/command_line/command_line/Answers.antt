use Rattle.std.proofs.Common.{◌≡◌, ◌∙◌, ap, ap₂, codes}
use Rattle.std.proofs.lemmas.Result.{IfOk-weaker}
use Rattle.clap.specs.Simple.{App, new_app, with_rule, with_subcommand}
use Rattle.clap.specs.Words.{app_of}
use Rattle.rom_words.specs.CommandLine.{bare_app, file_app, option_rule, plain_rule, scripts_rule}
use Rattle.rom_words.proofs.command_line.command_line.Goals as goal

abbrev with_try : App
with_try = with_subcommand bare_app (with_rule (new_app (codes "try")) scripts_rule).top

abbrev with_run : App
with_run = with_subcommand with_try (with_rule (with_rule (new_app (codes "run")) (plain_rule (codes "FILE"))) scripts_rule).top

abbrev with_format : App
with_format = with_subcommand with_run (with_rule (with_rule (new_app (codes "format")) (plain_rule (codes "FILE"))) (option_rule (codes "order"))).top

abbrev with_stat : App
with_stat = with_subcommand with_format (file_app (codes "stat")).top

abbrev with_upgrade : App
with_upgrade = with_subcommand with_stat (file_app (codes "upgrade")).top

pub returns : goal.returns
returns c =
    let one : app_of c.in_ok-subcommand.field-0 ≡ with_try =
    c.in_ok-subcommand.ensures.shape c.in_ok-try_command.ensures.local ∙ ap₂ with_subcommand c.bare_command.ensures.shape (ap (λ (a : App). a.top) c.in_ok-try_command.ensures.shape) in
    let two : app_of c.in_ok-subcommand-2.field-0 ≡ with_run =
    c.in_ok-subcommand-2.ensures.shape c.in_ok-run_command.ensures.local ∙ ap₂ with_subcommand one (ap (λ (a : App). a.top) c.in_ok-run_command.ensures.shape) in
    let three : app_of c.in_ok-subcommand-3.field-0 ≡ with_format =
    c.in_ok-subcommand-3.ensures.shape c.in_ok-format_command.ensures.local ∙ ap₂ with_subcommand two (ap (λ (a : App). a.top) c.in_ok-format_command.ensures.shape) in
    let four : app_of c.in_ok-subcommand-4.field-0 ≡ with_stat =
    c.in_ok-subcommand-4.ensures.shape c.in_ok-file_command.ensures.local ∙ ap₂ with_subcommand three (ap (λ (a : App). a.top) c.in_ok-file_command.ensures.shape) in
    let five : app_of c.in_ok-subcommand-5.field-0 ≡ with_upgrade =
    c.in_ok-subcommand-5.ensures.shape c.in_ok-file_command-2.ensures.local ∙ ap₂ with_subcommand four (ap (λ (a : App). a.top) c.in_ok-file_command-2.ensures.shape) in
    IfOk-weaker c.subcommand-6.result _ _
    (λ x added. added.shape c.in_ok-drill_command.ensures.local ∙ ap₂ with_subcommand five (ap (λ (a : App). a.top) c.in_ok-drill_command.ensures.shape)) c.subcommand-6.ensures
