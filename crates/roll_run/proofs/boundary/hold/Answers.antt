use Rattle.std.proofs.Common.{◌<◌, sym, ap, ◌∙◌, subst}
use Rattle.domains.specs.Ids.{host_numbers}
use Rattle.batch_plan.specs.Counts.{Counted}
use Rattle.fleet_states.proofs.HostLemmas.{length-host_numbers}
use Rattle.batch_plan.specs.Places.{told_places}
use Rattle.roll_core.specs.Views.{state_of}
use Rattle.roll_run.proofs.Counting.{follows, told_fleet}
use Rattle.roll_run.proofs.Passing.{sets_aside}
use Rattle.roll_run.proofs.boundary.hold.Goals as goal

pub returns-in-Ok-clause-ok : goal.returns-in-Ok-clause-ok
returns-in-Ok-clause-ok g c =
    let some = subst (λ n. 0 < n) (sym (length-host_numbers c.args.held.now)) c.requires.some in
    sets_aside c.args.board.now c.hold.new.self (host_numbers c.args.held.now) some c.in-Ok.ensures.ok

pub returns-in-Ok-clause-counts : goal.returns-in-Ok-clause-counts
returns-in-Ok-clause-counts g c =
    let told = c.tell.ensures ∙ ap (λ l. told_places (host_numbers c.args.held.now) l c.args.domains.now) c.statuses.ensures.value in
    follows c.args.board.now c.hold.new.self (host_numbers c.args.held.now) c.args.domains.now c.tell.new.domains (returns-in-Ok-clause-ok g c) c.requires.counts told

pub returns-in-Ok-clause-fleet : goal.returns-in-Ok-clause-fleet
returns-in-Ok-clause-fleet g c =
    ap (λ (d : Counted). d.fleet) c.tell.ensures ∙ told_fleet (host_numbers c.args.held.now) c.statuses.result.now c.args.domains.now
