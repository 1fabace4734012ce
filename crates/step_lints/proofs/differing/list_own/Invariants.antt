use Rattle.std.proofs.Common.{◌≡◌, ◌||◌, drop}
use Rattle.group_tree.specs.Names.{Name}
use Rattle.result_dependencies.specs.Registers.{is_registered_by}
use Rattle.step_lints.specs.Inside.{has_name}
use Rattle.step_lints.proofs.differing.list_own.Given as goal

abbrev pub invariant-loop-step : goal.invariant-loop-step
invariant-loop-step l = (name : Name) → (has_name l.own name || is_registered_by (drop l.step-index l.steps) name) ≡ is_registered_by l.steps name
