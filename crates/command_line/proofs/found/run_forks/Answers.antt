use Rattle.std.proofs.Common.{Some, None, codes, refl, sym, ap, ◌∙◌}
use Rattle.std.specs.Prelude.{option_and_then}
use Rattle.std.specs.Str.Parse.{ParsesUnsigned, ExplainsUnsignedError, HasUnsignedDigitsIfOk}
use Rattle.clap.specs.Words.{found_of, one_text}
use Rattle.clap.proofs.WalkLemmas.{one_text-rows}
use Rattle.command_line.specs.Forks.{forks_in}
use Rattle.command_line.proofs.ForksLemmas.{forks_of_one}
use Rattle.command_line.proofs.FoundLemmas.{text_of}
use Rattle.command_line.proofs.found.run_forks.Goals as goal

pub returns-in_err-get_one : goal.returns-in_err-get_one
returns-in_err-get_one c =
    let sub = c.in_ok-subcommand_matches in
    let text = one_text-rows (found_of sub.field-0.now) (codes "forks")
    ∙ sym (text_of (codes "run") (codes "forks") c.args.matches.now _ (sub.ensures.found.0 refl) sub.ensures.rows) in
    c.from_residual-in_err-get_one.ensures
    ∙ forks_of_one (λ text r. ParsesUnsigned 64 10 text r × ExplainsUnsignedError 10 text r × HasUnsignedDigitsIfOk text r) (λ text r read. read.0) (one_text (found_of sub.field-0.now) (codes "forks")) None c.in_err-get_one.ensures.none c.in_err-get_one.ensures.value
    ∙ ap (option_and_then forks_in) text

pub returns : goal.returns
returns c =
    let sub = c.in_ok-subcommand_matches in
    let text = one_text-rows (found_of sub.field-0.now) (codes "forks")
    ∙ sym (text_of (codes "run") (codes "forks") c.args.matches.now _ (sub.ensures.found.0 refl) sub.ensures.rows) in
    c.new.ensures
    ∙ forks_of_one (λ text r. ParsesUnsigned 64 10 text r × ExplainsUnsignedError 10 text r × HasUnsignedDigitsIfOk text r) (λ text r read. read.0) (one_text (found_of sub.field-0.now) (codes "forks")) (Some c.in_ok-get_one.field-0) c.in_ok-get_one.ensures.none
    c.in_ok-get_one.ensures.value
    ∙ ap (option_and_then forks_in) text
