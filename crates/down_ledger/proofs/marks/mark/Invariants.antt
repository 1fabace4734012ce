use Rattle.std.proofs.Common.{◌≡◌, take, true}
use Rattle.fleet_states.specs.declared.status.Status.TheVariants.{Running}
use Rattle.domains.specs.Ids.{host_numbers}
use Rattle.fleet_states.specs.Statuses.{changed, are_ready}
use Rattle.down_ledger.proofs.marks.mark.Given as goal

abbrev pub invariant-loop-place : goal.invariant-loop-place
invariant-loop-place l =
    record {
      statuses : l.statuses ≡ changed (λ _. Running) (take l.place (host_numbers l.hosts)) l.initial.statuses;
      ready : are_ready l.initial.statuses (take l.place (host_numbers l.hosts)) ≡ true;
    }
