-- What clap's matches have under a command's name.
use Rattle.std.proofs.Common.{◌≡◌, true, List, Option, Some, None, cond, refl, ◌∙◌, option_map}
use Rattle.std.specs.Prelude.{Box, option_and_then}
use Rattle.std.specs.Box.{box_value}
use Rattle.std.specs.Str.{bytes_eq}
use Rattle.std.proofs.lemmas.Slice.Eq.{bytes_eq-Decides}
use Rattle.clap.specs.Words.{Row, Text, first_of, one_of, subcommand_name_of, subcommand_rows, subcommand_rows_of}
use Rattle.clap.specs.declared.parser.matches.ArgMatches.{ArgMatches}
use Rattle.clap.specs.declared.parser.matches.SubCommand.{SubCommand}
use Rattle.clap.specs.declared.parser.matches.ArgMatches.TheViews.{out-ArgMatches, out-SubCommand}
use Rattle.command_line.specs.Syntax.{file_in, text_in}

-- what is read of the rows under this name
found_by : (read : List Row → Option Text) (command : Text) (found : Option (Text × List Row)) (rows : List Row)
    → option_map (λ p. p.0) found ≡ Some command → option_map (λ p. p.1) found ≡ Some rows
    → option_and_then (λ p. cond (bytes_eq p.0 command) (read p.1) None) found ≡ read rows
found_by read command None rows name found = cc
found_by read command (Some p) rows name found =
    let named : p.0 ≡ command = cc in
    let at : p.1 ≡ rows = cc in
    let same : bytes_eq p.0 command ≡ true = (bytes_eq-Decides p.0 command).1 named in
    rw (same, at) refl

same_name : {Z : Type 0} (found : Option (Box SubCommand Z)) → option_map (λ p. p.0) (subcommand_rows found) ≡ option_map (λ b. (out-SubCommand (box_value b)).name.now) found
same_name None = refl
same_name (Some b) = refl

module _ (command argument : Text) (m : ArgMatches) (rows : List Row) (name : subcommand_name_of m ≡ Some command)
    (found : option_map (λ p. p.1) (subcommand_rows (out-ArgMatches m).subcommand) ≡ Some rows) where
  pub file_of : file_in command argument (subcommand_rows_of m) ≡ first_of argument rows
  file_of = found_by (first_of argument) command (subcommand_rows_of m) rows (same_name (out-ArgMatches m).subcommand ∙ name) found

  pub text_of : text_in command argument (subcommand_rows_of m) ≡ one_of argument rows
  text_of = found_by (one_of argument) command (subcommand_rows_of m) rows (same_name (out-ArgMatches m).subcommand ∙ name) found
