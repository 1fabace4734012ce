use Rattle.std.proofs.Common.{◌≡◌, ◌||◌, take}
use Rattle.std.specs.List.{list_any}
use Rattle.group_tree.specs.Names.{Name}
use Rattle.step_lints.specs.Given.{has_missed, group_gives}
use Rattle.step_lints.proofs.definitions.add_groups.Given as goal

abbrev pub invariant-loop-walked : goal.invariant-loop-walked
invariant-loop-walked g l =
    (name : Name) → has_missed l.given name ≡ (has_missed l.initial.given name || list_any (λ walked. group_gives name walked.group.now) (take l.walked-index l.groups))
