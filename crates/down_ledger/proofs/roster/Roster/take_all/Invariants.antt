use Rattle.std.proofs.Common.{◌≡◌, take, true}
use Rattle.fleet_states.specs.declared.status.Status.TheVariants.{Running}
use Rattle.domains.specs.Ids.{host_numbers}
use Rattle.fleet_states.specs.Groups.{IsSafe, groups_of}
use Rattle.fleet_states.specs.Statuses.{are_ready}
use Rattle.down_ledger.specs.Rosters.{HasChanged}
use Rattle.down_ledger.proofs.roster.Roster.take_all.Given as goal

abbrev pub invariant-loop-place : goal.invariant-loop-place
invariant-loop-place l =
    record {
      changed : HasChanged l.initial.self l.self (take l.place (host_numbers l.hosts)) (λ _. Running) true;
      safe : IsSafe (groups_of l.self.fleet) l.self.statuses;
      ready : are_ready l.initial.self.statuses (take l.place (host_numbers l.hosts)) ≡ true;
    }
