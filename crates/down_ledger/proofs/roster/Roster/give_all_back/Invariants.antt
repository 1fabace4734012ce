use Rattle.std.proofs.Common.{take, false}
use Rattle.fleet_states.specs.declared.status.Status.TheVariants.{Waiting}
use Rattle.domains.specs.Ids.{host_numbers}
use Rattle.down_ledger.specs.Rosters.{HasChanged}
use Rattle.down_ledger.proofs.roster.Roster.give_all_back.Given as goal

abbrev pub invariant-loop-host : goal.invariant-loop-host
invariant-loop-host l =
    HasChanged l.initial.self l.self (take l.host-index (host_numbers l.hosts)) (λ _. Waiting) false
