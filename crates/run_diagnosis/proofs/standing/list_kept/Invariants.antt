use Rattle.std.proofs.Common.{◌≡◌, false, get_or, option_map}
use Rattle.domains.specs.Ids.{host_numbers}
use Rattle.fleet_index.specs.NumberLists.{numbers_where}
use Rattle.fleet_states.specs.Statuses.{status_at}
use Rattle.group_tree.specs.declared.ids.GroupId.{GroupId}
use Rattle.run_diagnosis.specs.Standing.{is_kept}
use Rattle.run_diagnosis.proofs.standing.list_kept.Given as goal

abbrev pub invariant-loop-index : goal.invariant-loop-index
invariant-loop-index l =
    host_numbers l.hosts.items
    ≡ numbers_where
    (λ host. is_kept l.fleet (λ group. get_or l.full group false) l.cause.kind (option_map (λ (group : GroupId). group.index) l.cause.group) host (status_at l.statuses host)) l.index
