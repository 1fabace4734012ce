-- What clap makes of the words behind the command `run`.
use Rattle.std.proofs.Common.{◌≡◌, ◌&&◌, ◌++◌, Bool, true, false, List, [], ◌∷◌, Some, codes, refl, sym, ap, subst, ◌∙◌}
use Rattle.std.specs.Prelude.{if◌then◌else◌, is_some, map}
use Rattle.std.specs.List.{list_all}
use Rattle.clap.specs.Simple.{App, Shape, built, entered, help_rule, names_of, new_shape}
use Rattle.clap.specs.Takes.{default_passes, entered_passes, is_valid, level_passes, settle_passes, walk_passes}
use Rattle.clap.specs.ValueTests.{accepts}
use Rattle.clap.specs.Walk.{Names, Rule, Text, Walk, finished, nothing_held, rows_after, walk, walk_from, walked}
use Rattle.clap.specs.Words.{first_of, one_of, subcommand_of, takes}
use Rattle.clap.specs.declared.builder.action.ArgAction.TheVariants.{Set}
use Rattle.clap.specs.declared.builder.value_parser.ValueParser.{ValueParser}
use Rattle.clap.specs.declared.builder.range.ValueRange.{ValueRange}
use Rattle.clap.specs.declared.builder.value_parser.ValueParser.TheVariants.{String}
use Rattle.clap.specs.declared.builder.value_parser.ValueParser.TheVariants as parsers
use Rattle.clap.proofs.OnLiterals.{clap_on_literals}
use Rattle.clap.proofs.WalkLemmas.{walk_stopped}
use Rattle.command_line.specs.Syntax.{argument_of, check_command, explain_command, file_in, forks_argument, inventory_argument, limits_command, lint_command, plan_command, playbook_argument, rehearse_command, rollout, run_command_by, state_command, text_in}
use Rattle.command_line.specs.OptionNames.{has_value}
use Rattle.command_line.specs.OptionsOf.{options_of}
use Rattle.command_line.specs.declared.option_name.OptionName.{OptionName}
use Rattle.command_line.specs.Operands.{Word}

-- clap takes the words, and reads both files and the text of the forks
pub record ReadsText (app : App) (words : List Word) (first second text : Word) : Type 0 where
  pub taken : takes app words ≡ true
  pub inventory : file_in (codes "run") (codes "INV") (subcommand_of app words) ≡ Some first
  pub playbook : file_in (codes "run") (codes "PLAY") (subcommand_of app words) ≡ Some second
  pub forks : text_in (codes "run") (codes "forks") (subcommand_of app words) ≡ Some text

-- the program, with any reader of the forks: computing stops at the reader
abbrev pub program : ValueParser → App
program parser = record rollout {
  subs = limits_command.top ∷ plan_command.top
      ∷ (run_command_by (record forks_argument { parser = Some parser })).top ∷ rehearse_command.top ∷ state_command.top ∷ check_command.top ∷ lint_command.top ∷ explain_command.top ∷ [];
}

abbrev with_one_value : Rule → Rule
with_one_value rule = record rule { action = Some Set; range = Some (record { start_inclusive = 1; end_inclusive = 1 }) }

abbrev pub none_taken : ValueRange
none_taken = record { start_inclusive = 0; end_inclusive = 0 }

abbrev built_flag : Rule → Rule
built_flag rule = record rule { defaults = codes "false" ∷ []; missing = codes "true" ∷ []; parser = Some parsers.Bool; range = Some none_taken }

-- an option as clap builds it
abbrev built_option : OptionName → Rule
built_option option = if has_value option then record (with_one_value (argument_of option)) { parser = Some String } else built_flag (argument_of option)

-- the command `run` as clap builds it
abbrev pub level : ValueParser → Shape
level parser = record (new_shape (codes "run")) {
  no_binary_name = true;
  disable_help_subcommand = true;
  is_built = true;
  rules = (record (with_one_value inventory_argument) { index = Some 1; parser = Some String })
      ∷ (record (with_one_value playbook_argument) { index = Some 2; parser = Some String })
      ∷ (record (with_one_value forks_argument) { parser = Some parser })
      ∷ (map built_option (options_of (codes "run")) ++ (record help_rule { parser = Some String; range = Some none_taken }) ∷ []);
}

both_true : (a b : Bool) → a ≡ true → b ≡ true → (a && b) ≡ true
both_true true b h g = g
both_true false b h g = h

-- what a walk that has met a subcommand does with the words passes
stopped_passes : (s : Shape) (names : Names) (w : Walk) (p : Text × List Text) (words : List Text) → walk_passes s names (record w { stopped = Some p }) words ≡ true
unfolding walk_passes walked
stopped_passes s names w p [] = refl
stopped_passes s names w p (word ∷ words) = stopped_passes s names w (p.0, p.1 ++ word ∷ []) words

module _ (parser : ValueParser) where
  -- what clap makes of the words of a level, part by part
  pub record Passes (words : List Word) (first second text : Word) : Type 0 where
    pub walks : walk_passes (level parser) [] (walk_from nothing_held) words ≡ true
    pub settles : settle_passes (level parser).rules false (walk (level parser).rules [] nothing_held words).held ≡ true
    pub valid : is_valid (level parser) (finished (level parser).rules (walk (level parser).rules [] nothing_held words).held) false ≡ true
    pub inventory : first_of (codes "INV") (rows_after (level parser).rules [] words) ≡ Some first
    pub playbook : first_of (codes "PLAY") (rows_after (level parser).rules [] words) ≡ Some second
    pub forks : one_of (codes "forks") (rows_after (level parser).rules [] words) ≡ Some text

  abbrev top : App
  top = built (program parser)

  -- the walk of the program's own level stops at the command
  stops : (words : List Word) → walk top.top.rules (names_of top) nothing_held (codes "run" ∷ words) ≡ record (walk_from nothing_held) { stopped = Some (codes "run", words) }
  unfolding clap_on_literals
  stops words = sym (walk_stopped top.top.rules (names_of top) (walk_from nothing_held) (codes "run") [] words)

  enters : (words : List Word) → subcommand_of (program parser) (codes "run" ∷ words) ≡ Some (codes "run", rows_after (level parser).rules [] words)
  enters words = ap (λ (w : Walk). entered top w.stopped) (stops words)

  level_taken : (words : List Word) (first second text : Word) → list_all default_passes (level parser).rules ≡ true → Passes words first second text
      → level_passes (level parser) [] nothing_held words false ≡ true
  level_taken words first second text default p = both_true _ _ p.walks (both_true _ _ p.settles (both_true _ _ default p.valid))

  run_taken : (words : List Word) → level_passes (level parser) [] nothing_held words false ≡ true → takes (program parser) (codes "run" ∷ words) ≡ true
  unfolding clap_on_literals
  run_taken words taken =
      subst (λ (w : Walk). (entered_passes top w.stopped && (walk_passes top.top (names_of top) (walk_from nothing_held) (codes "run" ∷ words)
      && (settle_passes top.top.rules false w.held && (list_all default_passes top.top.rules && is_valid top.top (finished top.top.rules w.held) (is_some (entered top w.stopped)))))) ≡ true)
      (sym (stops words))
      (both_true _ _ taken (both_true _ _ (stopped_passes top.top (names_of top) (walk_from nothing_held) (codes "run", []) words) refl))

  default_taken : accepts false parser (codes "5") ≡ true → list_all default_passes (level parser).rules ≡ true
  default_taken default = rw default refl

  pub reads : accepts false parser (codes "5") ≡ true → (words : List Word) (first second text : Word) → Passes words first second text
      → ReadsText (program parser) (codes "run" ∷ words) first second text
  reads default words first second text p = record {
    taken = run_taken words (level_taken words first second text (default_taken default) p);
    inventory = ap (file_in (codes "run") (codes "INV")) (enters words) ∙ p.inventory;
    playbook = ap (file_in (codes "run") (codes "PLAY")) (enters words) ∙ p.playbook;
    forks = ap (text_in (codes "run") (codes "forks")) (enters words) ∙ p.forks;
  }
