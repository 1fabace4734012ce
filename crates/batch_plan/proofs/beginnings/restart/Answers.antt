use Rattle.std.proofs.Common.{List, sym, ap, ◌∙◌, subst}
use Rattle.domains.specs.Ids.{host_numbers}
use Rattle.fleet_states.specs.declared.status.Status.{Status}
use Rattle.fleet_states.specs.Statuses.{changed, is_down, status_at}
use Rattle.batch_plan.specs.Beginnings.{IsReady}
use Rattle.batch_plan.specs.Inside.{awaited}
use Rattle.batch_plan.proofs.BeginningLemmas.{restart_aimed, restart_down, restart_ready}
use Rattle.batch_plan.proofs.beginnings.restart.Goals as goal

pub returns-clause-statuses : goal.returns-clause-statuses
returns-clause-statuses c =
    let target = host_numbers c.args.target.now in
    c.await_turns.ensures ∙ ap (changed awaited target) c.in_ok-next.ensures ∙ restart_aimed c.args.statuses.now target

pub returns-clause-down : goal.returns-clause-down
returns-clause-down c rest host =
    ap (λ (l : List Status). is_down (status_at l host)) (returns-clause-statuses c) ∙ restart_down c.args.statuses.now (host_numbers c.args.target.now) rest host

pub returns-clause-ready : goal.returns-clause-ready
returns-clause-ready c ready =
    subst (IsReady c.args.fleet.now) (sym (returns-clause-statuses c)) (restart_ready c.args.statuses.now (host_numbers c.args.target.now) c.args.fleet.now ready)
