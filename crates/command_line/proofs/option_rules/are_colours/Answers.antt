use Rattle.std.proofs.Common.{◌∙◌}
use Rattle.command_line.proofs.GivenLemmas.{list_all-map}
use Rattle.command_line.specs.OptionReads.{given_as}
use Rattle.command_line.specs.Wishes.{says_when}
use Rattle.command_line.proofs.option_rules.are_colours.Goals as goal

pub returns : goal.returns
returns c = c.all_say_when.ensures ∙ list_all-map says_when given_as c.args.given.now
