use Rattle.std.proofs.Common.{◌≡◌, filter, take}
use Rattle.step_lints.specs.Inside.{names_of}
use Rattle.lint_command.specs.Near as model
use Rattle.lint_command.proofs.near.list_others.Given as goal

abbrev pub invariant-loop-other : goal.invariant-loop-other
invariant-loop-other l = names_of l.others.items ≡ filter (model.is_compared l.name) (names_of (take l.other-index l.names))
