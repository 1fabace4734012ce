use Rattle.std.proofs.Common.{codes, refl, sym, ◌∙◌}
use Rattle.clap.specs.Words.{found_of}
use Rattle.clap.proofs.WalkLemmas.{first_value-rows}
use Rattle.command_line.proofs.FoundLemmas.{file_of}
use Rattle.command_line.proofs.found.explain_word.Goals as goal

pub returns : goal.returns
returns c =
    let sub = c.in_ok-subcommand_matches in
    c.get_str.ensures ∙ first_value-rows (found_of sub.field-0.now) (codes "NUMBER|RULE")
    ∙ sym (file_of (codes "explain") (codes "NUMBER|RULE") c.args.matches.now _ (sub.ensures.found.0 refl) sub.ensures.rows)
