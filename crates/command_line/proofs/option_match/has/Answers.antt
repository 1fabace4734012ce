use Rattle.std.proofs.Common.{◌∙◌}
use Rattle.clap.proofs.WalkLemmas.{list_any-map}
use Rattle.command_line.specs.OptionReads.{given_as}
use Rattle.command_line.specs.Wishes.{is_given}
use Rattle.command_line.proofs.option_match.has.Goals as goal

pub returns : goal.returns
returns c = c.is_among.ensures ∙ list_any-map (is_given c.args.option) given_as c.args.given.now
