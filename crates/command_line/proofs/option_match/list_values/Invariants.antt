use Rattle.std.proofs.Common.{◌≡◌, flat_map, map, string_bytes, take}
use Rattle.command_line.specs.OptionReads.{given_as}
use Rattle.command_line.specs.Wishes.{value_of}
use Rattle.command_line.proofs.option_match.list_values.Given as goal

abbrev pub invariant-loop-one : goal.invariant-loop-one
invariant-loop-one l = map string_bytes l.values.items ≡ flat_map (λ one. value_of l.option (given_as one)) (take l.one-index l.given)
