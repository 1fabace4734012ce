use Rattle.std.proofs.Common.{◌≡◌, ◌||◌, take}
use Rattle.group_tree.specs.Names.{Name}
use Rattle.step_lints.specs.Given.{has_missed, is_named}
use Rattle.step_lints.proofs.definitions.add_variables.Given as goal

abbrev pub invariant-loop-variable : goal.invariant-loop-variable
invariant-loop-variable g l = (name : Name) → has_missed l.given name ≡ (has_missed l.initial.given name || is_named name (take l.variable-index l.variables))
