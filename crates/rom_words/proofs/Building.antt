-- How a command is built.
use Rattle.std.proofs.Common.{◌≡◌, ◌∙◌, ap₂, false, ◌||◌}
use Rattle.clap.specs.Simple.{App, app_of, with_rule}
use Rattle.clap.specs.Walk.{Rule, rule_of}
use Rattle.clap.specs.Words.{AddsArg}
use Rattle.clap.specs.declared.builder.arg.Arg.{Arg}
use Rattle.clap.specs.declared.builder.command.Command.{Command}
use Rattle.clap.specs.declared.builder.command.Command.TheViews.{out-Command}

module _ (command now : Command) (arg : Arg) (local : arg.global ≡ false) (adds : AddsArg command arg now) where
  -- an argument of this rule, added to a command of this shape
  pub with_arg : (app : App) (rule : Rule) → app_of command ≡ app → rule_of arg ≡ rule → app_of now ≡ with_rule app rule
  with_arg app rule was is = adds.shape local ∙ ap₂ with_rule was is

  pub still_local : (out-Command command).has_globals ≡ false → (out-Command now).has_globals ≡ false
  still_local was = adds.globals ∙ ap₂ ◌||◌ was local
