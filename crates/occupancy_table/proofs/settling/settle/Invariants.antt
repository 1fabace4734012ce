use Rattle.std.proofs.Common.{◌≡◌, take}
use Rattle.domains.specs.Ids.{host_numbers}
use Rattle.fleet_states.specs.Statuses.{changed}
use Rattle.batch_plan.specs.Places.{AreCountsOf}
use Rattle.occupancy_table.proofs.settling.settle.Given as goal

abbrev pub invariant-loop-host : goal.invariant-loop-host
invariant-loop-host g l =
    record {
      statuses : l.statuses ≡ changed (λ _. l.status) (take l.host-index (host_numbers l.hosts)) l.initial.statuses;
      counts : AreCountsOf l.statuses l.domains;
      fleet : l.domains.fleet ≡ l.initial.domains.fleet;
    }
