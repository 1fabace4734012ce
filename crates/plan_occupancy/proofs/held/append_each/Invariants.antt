use Rattle.std.proofs.Common.{◌≡◌, ◌++◌, take}
use Rattle.domains.specs.Ids.{host_numbers}
use Rattle.plan_occupancy.specs.Inside.{held_views}
use Rattle.plan_occupancy.specs.Surveys.{held_of}
use Rattle.plan_occupancy.proofs.held.append_each.Given as goal

abbrev pub invariant-loop-host : goal.invariant-loop-host
invariant-loop-host l =
    held_views l.held.items ≡ held_views l.initial.held.items ++ held_of l.fleet (record { statuses = l.statuses; hosts = take l.host-index (host_numbers l.hosts) })
