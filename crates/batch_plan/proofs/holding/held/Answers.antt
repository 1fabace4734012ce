use Rattle.std.proofs.Common.{◌≡◌, IfOk, refl, sym, subst}
use Rattle.domains.specs.Ids.{host_numbers}
use Rattle.batch_plan.specs.Counts.{Counted}
use Rattle.batch_plan.specs.Holding.{held_hosts}
use Rattle.batch_plan.specs.Places.{AreCountsOf}
use Rattle.batch_plan.proofs.holding.held.Goals as goal

pub held_over-requires : goal.held_over-requires
held_over-requires c =
    subst (λ (counted : Counted). AreCountsOf c.args.statuses.now counted) (sym c.in_ok-domains.ensures) (record { all_hosts = c.requires; places = refl })

pub returns-clause-hosts : goal.returns-clause-hosts
returns-clause-hosts c =
    subst (λ (counted : Counted). IfOk c.held_over.result (λ hosts. host_numbers hosts.items ≡ held_hosts counted.fleet c.args.statuses.now)) c.in_ok-domains.ensures c.held_over.ensures.hosts
