use Rattle.std.proofs.Common.{◌≡◌, ◌++◌, flat_map, take}
use Rattle.inventory_lints.specs.HostKeys.{group_own_notes}
use Rattle.inventory_lints.proofs.host_keys.warn_walk.Given as goal

abbrev pub invariant-loop-walked : goal.invariant-loop-walked
invariant-loop-walked g l =
    l.notes ≡ l.initial.notes ++ flat_map (λ walked. group_own_notes walked.group.now) (take l.walked-index l.groups)
