-- The program's commands, as clap's definitions read them.
use Rattle.std.specs.Prelude.{ℕ, true, codes, List, [], ◌∷◌, Option, Some, None, option_and_then, if◌then◌else◌}
use Rattle.std.specs.Str.{bytes_eq}
use Rattle.clap.specs.Words.{App, Row, Rule, Shape, Text, first_of, one_of, new_app, new_rule, with_rule, with_subcommand}
use Rattle.clap.specs.Simple.{on_top}
use Rattle.clap.specs.declared.builder.action.ArgAction.TheVariants.{SetTrue}
use Rattle.clap.specs.declared.builder.value_parser.ValueParser.TheVariants.{Unsigned}
use Rattle.command_line.specs.Forks.{default_text, forks_in}
use Rattle.command_line.specs.OptionNames.{has_value, id_of, is_same}
use Rattle.command_line.specs.OptionsOf.{options_of}
use Rattle.command_line.specs.declared.option_name.OptionName.{OptionName}
use Rattle.command_line.specs.declared.option_name.OptionName.TheVariants.{Verbose}

-- the argument for the inventory's file
abbrev pub inventory_argument : Rule
inventory_argument = record (new_rule (codes "INV")) { required = true }

-- the argument for the playbook's file
abbrev pub playbook_argument : Rule
playbook_argument = record (new_rule (codes "PLAY")) { required = true }

-- the option for the number of forks: a whole number from 1 to 64
abbrev pub forks_argument : Rule
forks_argument = record (new_rule (codes "forks")) {
  long = Some (codes "forks");
  value_names = 1;
  parser = Some (Unsigned 1 64);
  defaults = default_text ∷ [];
}

abbrev pub valued_argument : Text → Rule
valued_argument id = record (new_rule id) { long = Some id; value_names = 1 }

abbrev pub flag_argument : Text → Rule
flag_argument id = record (new_rule id) { long = Some id; action = Some SetTrue }

-- the flag that has a letter too
abbrev pub lettered_argument : Text → Rule
lettered_argument id = record (flag_argument id) { short = Some 118 }

-- an option that is taken out of the words before clap reads them
abbrev pub argument_of : OptionName → Rule
argument_of option =
    if has_value option then valued_argument (id_of option)
    else (if is_same option Verbose then lettered_argument (id_of option) else flag_argument (id_of option))

-- a command with these options
abbrev pub with_options : App → List OptionName → App
with_options app [] = app
with_options app (option ∷ options) = with_options (with_rule app (argument_of option)) options

abbrev pub limits_command : App
limits_command = with_options (with_rule (new_app (codes "limits")) inventory_argument) (options_of (codes "limits"))

abbrev pub plan_command : App
plan_command = with_options (with_rule (with_rule (new_app (codes "plan")) inventory_argument) playbook_argument) (options_of (codes "plan"))

-- a run, by the argument for its forks
abbrev pub run_command_by : Rule → App
run_command_by forks =
    with_options (with_rule (with_rule (with_rule (new_app (codes "run")) inventory_argument) playbook_argument) forks) (options_of (codes "run"))

abbrev pub run_command : App
run_command = run_command_by forks_argument

abbrev pub rehearse_command : App
rehearse_command = with_options (with_rule (with_rule (new_app (codes "rehearse")) inventory_argument) playbook_argument) (options_of (codes "rehearse"))

-- the argument for the journal's file
abbrev pub journal_argument : Rule
journal_argument = record (new_rule (codes "JOURNAL")) { required = true }

abbrev pub state_command : App
state_command = with_options (with_rule (with_rule (new_app (codes "state")) inventory_argument) journal_argument) (options_of (codes "state"))

-- the argument for the playbook's file that need not be there
abbrev pub any_playbook_argument : Rule
any_playbook_argument = new_rule (codes "PLAY")

-- the argument for the plan's file
abbrev pub plan_argument : Rule
plan_argument = record (new_rule (codes "PLAN")) { required = true }

-- the argument for the number of an error, or the name of a lint rule
abbrev pub topic_argument : Rule
topic_argument = record (new_rule (codes "NUMBER|RULE")) { required = true }

abbrev pub check_command : App
check_command = with_rule (with_rule (with_rule (new_app (codes "check")) inventory_argument) playbook_argument) plan_argument

abbrev pub lint_command : App
lint_command = with_options (with_rule (with_rule (new_app (codes "lint")) inventory_argument) any_playbook_argument) (options_of (codes "lint"))

abbrev pub explain_command : App
explain_command = with_rule (new_app (codes "explain")) topic_argument

abbrev settings : Shape → Shape
settings shape = record shape { has_version = true; no_binary_name = true; subcommand_required = true }

abbrev pub rollout : App
rollout = with_subcommand (with_subcommand (with_subcommand
    (with_subcommand
    (with_subcommand (with_subcommand (with_subcommand (with_subcommand (on_top settings (new_app (codes "rollout"))) limits_command.top) plan_command.top) run_command.top)
    rehearse_command.top)
    state_command.top)
    check_command.top) lint_command.top) explain_command.top

-- the file that a parse found for an argument of a command
abbrev pub file_in : Text → Text → Option (Text × List Row) → Option Text
file_in command argument = option_and_then (λ found. if bytes_eq found.0 command then first_of argument found.1 else None)

-- the text that is read of an option of a command
abbrev pub text_in : Text → Text → Option (Text × List Row) → Option Text
text_in command argument = option_and_then (λ found. if bytes_eq found.0 command then one_of argument found.1 else None)

-- the number of forks that a parse found
abbrev pub forks_found : Option (Text × List Row) → Option ℕ
forks_found found = option_and_then forks_in (text_in (codes "run") (codes "forks") found)
