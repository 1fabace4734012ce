use Rattle.std.proofs.Common.{◌≡◌, take, true}
use Rattle.std.specs.List.{list_all}
use Rattle.domains.specs.Ids.{host_numbers}
use Rattle.fleet_states.specs.Groups.{groups_of, lacks_room}
use Rattle.down_ledger.proofs.roster.Roster.test_stuck.Given as goal

abbrev pub invariant-loop-place : goal.invariant-loop-place
invariant-loop-place l =
    list_all (lacks_room (groups_of l.self.fleet) l.self.statuses) (take l.place (host_numbers l.hosts)) ≡ true
