use Rattle.std.proofs.Common.{◌≡◌, take}
use Rattle.domains.specs.Ids.{host_numbers}
use Rattle.fleet_states.specs.declared.status.Status.TheVariants.{Held}
use Rattle.fleet_states.specs.Statuses.{changed}
use Rattle.down_ledger.proofs.roster.Roster.set_all_aside.Given as goal

abbrev pub invariant-loop-place : goal.invariant-loop-place
invariant-loop-place l =
    l.self ≡ record l.initial.self { statuses = changed (λ _. Held) (take l.place (host_numbers l.hosts)) l.initial.self.statuses }
