use Rattle.std.proofs.Common.{◌≡◌, ◌||◌, take}
use Rattle.group_tree.specs.Names.{Name}
use Rattle.result_dependencies.specs.Registers.{is_registered_by}
use Rattle.result_dependencies.specs.Lookups.{has_gathered}
use Rattle.result_dependencies.proofs.earlier.Earlier.add_all.Given as goal

abbrev pub invariant-loop-step : goal.invariant-loop-step
invariant-loop-step l =
    (name : Name) → has_gathered l.self name ≡ (has_gathered l.initial.self name || is_registered_by (take l.step-index l.steps) name)
