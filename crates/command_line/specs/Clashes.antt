-- What is said of words that don't go together.
use Rattle.std.specs.Prelude.{ℕ, List, codes}
use Rattle.command_line.specs.declared.option_conflict.OptionConflict.{OptionConflict}
use Rattle.command_line.specs.declared.option_conflict.OptionConflict.TheVariants.{FailingAlone, JournalOfResume, ChangedInputsAlone, UpAlone, GroupsFrom, ExpectBeyond, CommandsBeside, NoJson, StrictOfOthers, NoColor, NoEntry}

abbrev pub text_of : OptionConflict → List ℕ
text_of FailingAlone = codes "error: --failing goes with --forecast\n"
text_of JournalOfResume = codes "error: --journal doesn't go with --resume: a run that goes on is kept in the journal that --resume names\n"
text_of ChangedInputsAlone = codes "error: --changed-inputs goes with --resume, with --from and with state\n"
text_of UpAlone = codes "error: --up goes with run, and else with --from\n"
text_of GroupsFrom = codes "error: --from doesn't go with --groups and --picture\n"
text_of ExpectBeyond = codes "error: --expect doesn't go with --forecast, --groups, --picture and --from\n"
text_of CommandsBeside = codes "error: --commands doesn't go with --forecast, --groups, --picture, --from and --expect\n"
text_of NoJson = codes "error: --json doesn't go with --groups, --picture, --from, --expect and --commands\n"
text_of StrictOfOthers = codes "error: --strict of a run doesn't go with --resume and --up\n"
text_of NoColor = codes "error: --color has the values auto, always and never\n"
text_of NoEntry = codes "error: explain goes with the number of a fault, as 302, or a kind of notes: repeated-key, near-key, group-down, zero-limit, empty-limit, loose-limit, unfilled-placeholder, no-hosts, unlimited-hosts, local-command, undefined-name, unknown-group, constant-test, idle-step, idle-handler, changed-guard, shell-word, dash-name, down-hosts, one-failure\n"
