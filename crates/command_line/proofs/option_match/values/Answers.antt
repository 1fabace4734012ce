use Rattle.std.proofs.Common.{◌∙◌, sym}
use Rattle.std.proofs.lemmas.List.Folds.{flat_map-map}
use Rattle.command_line.specs.OptionReads.{given_as}
use Rattle.command_line.specs.Wishes.{value_of}
use Rattle.command_line.proofs.option_match.values.Goals as goal

pub returns : goal.returns
returns c = c.in_ok-values.ensures ∙ sym (flat_map-map (value_of c.args.option) given_as c.args.given.now)
