-- The command line as `clap` has it, and what its matches hold of a command.
use Rattle.std.specs.Prelude.{◌≡◌, ℕ, List, [], ◌∷◌, codes, true, Option, Some, None, option_map}
use Rattle.clap.specs.Walk.{Row, Rule, Text, all_of}
use Rattle.clap.specs.Matches.{matched_of, raw_values}
use Rattle.clap.specs.declared.parser.matches.Found.{Found}
use Rattle.clap.specs.Simple.{App, new_app, new_rule, on_top, with_rule, with_subcommand}
use Rattle.clap.specs.declared.builder.action.ArgAction.TheVariants.{Set}
use Rattle.rom_words.specs.Words.{Command, Try, Run, Format, Stat, Upgrade, Drill, number_within}

-- a plain word
abbrev pub plain_rule : Text → Rule
plain_rule id = new_rule id

-- 1 to 16 plain words
abbrev pub scripts_rule : Rule
scripts_rule = record (new_rule (codes "SCRIPT")) { action = Some Set; range = Some (record { start_inclusive = 1; end_inclusive = 16 }) }

-- an option of this name, with a value
abbrev pub option_rule : Text → Rule
option_rule name = record (new_rule name) { long = Some name }

-- no help, and no word for the program's own name
abbrev pub bare_app : App
bare_app = on_top (λ s. record s { no_binary_name = true; disable_help_flag = true; disable_help_subcommand = true }) (new_app (codes "romulus"))

-- a command of this name with a file alone
abbrev pub file_app : Text → App
file_app name = with_rule (new_app name) (plain_rule (codes "FILE"))

-- the six commands, with the words and options that each takes
abbrev pub command_line : App
command_line =
    with_subcommand (with_subcommand (with_subcommand (with_subcommand (with_subcommand (with_subcommand bare_app
    (with_rule (new_app (codes "try")) scripts_rule).top)
    (with_rule (with_rule (new_app (codes "run")) (plain_rule (codes "FILE"))) scripts_rule).top)
    (with_rule (with_rule (new_app (codes "format")) (plain_rule (codes "FILE"))) (option_rule (codes "order"))).top)
    (file_app (codes "stat")).top)
    (file_app (codes "upgrade")).top)
    (with_rule (with_rule (with_rule (new_app (codes "drill")) (plain_rule (codes "START"))) (option_rule (codes "callers"))) (option_rule (codes "calls"))).top

-- the argument has this one value
abbrev pub HasValue : List Row → Text → Text → Type 0
HasValue rows id value = all_of id rows ≡ Some (value ∷ [])

-- the argument's one value spells this number, which is least to most
abbrev pub HasNumber : List Row → Text → ℕ → ℕ → ℕ → Type 0
HasNumber rows id least most n = (text : Text) × HasValue rows id text × (number_within least most text ≡ Some n)

-- the matches have what the command names
abbrev pub HasNamedWords : Command → List Row → Type 0
HasNamedWords (Try scripts) rows = all_of (codes "SCRIPT") rows ≡ Some scripts
HasNamedWords (Run file scripts) rows = HasValue rows (codes "FILE") file × (all_of (codes "SCRIPT") rows ≡ Some scripts)
HasNamedWords (Format file order) rows = HasValue rows (codes "FILE") file × HasNumber rows (codes "order") 4 16 order
HasNamedWords (Stat file) rows = HasValue rows (codes "FILE") file
HasNamedWords (Upgrade file) rows = HasValue rows (codes "FILE") file
HasNamedWords (Drill start callers calls) rows =
    HasNumber rows (codes "START") 0 18446744073709551615 start × HasNumber rows (codes "callers") 1 16 callers × HasNumber rows (codes "calls") 1 10000 calls

-- there are matches, and they have what the command names
abbrev pub MatchesHave : Command → Option (List Row) → Type 0
MatchesHave c None = ⊥
MatchesHave c (Some rows) = HasNamedWords c rows

-- the matches of an argument, as text
abbrev pub values_at : Found → Text → Option (List Text)
values_at f id = option_map raw_values (matched_of f id)

-- the matches have what is asked for
abbrev pub HasAsked : Option Command → List Row → Type 0
HasAsked None rows = ⊥
HasAsked (Some c) rows = HasNamedWords c rows
