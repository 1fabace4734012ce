use Rattle.std.proofs.Common.{sym, ap, ◌∙◌, subst}
use Rattle.domains.specs.Ids.{host_numbers}
use Rattle.fleet_states.specs.Statuses.{changed}
use Rattle.batch_plan.specs.Beginnings.{IsReady}
use Rattle.batch_plan.specs.Inside.{awaited}
use Rattle.batch_plan.proofs.BeginningLemmas.{start_aimed, start_ready}
use Rattle.batch_plan.proofs.beginnings.start.Goals as goal

pub returns-clause-statuses : goal.returns-clause-statuses
returns-clause-statuses c =
    let target = host_numbers c.args.target.now in
    c.await_turns.ensures ∙ ap (changed awaited target) c.in_ok-statuses.ensures.statuses ∙ start_aimed c.args.fleet.now target

pub returns-clause-ready : goal.returns-clause-ready
returns-clause-ready c =
    subst (IsReady c.args.fleet.now) (sym (returns-clause-statuses c)) (start_ready c.args.fleet.now c.in_ok-statuses.ensures.sound (host_numbers c.args.target.now))
