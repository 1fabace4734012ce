use Rattle.std.proofs.Common.{take, ap, ◌∙◌, arith}
use Rattle.std.proofs.lemmas.List.{take_all}
use Rattle.domains.specs.Ids.{host_numbers}
use Rattle.fleet_states.proofs.HostLemmas.{length-host_numbers}
use Rattle.batch_plan.specs.Places.{told_places}
use Rattle.roll_run.proofs.Counting.{placed_still, told_next}
use Rattle.roll_run.proofs.boundary.tell.Goals as goal

pub record_one-requires : goal.record_one-requires
record_one-requires g c =
    record { placed = placed_still (take c.loop-place.place (host_numbers c.args.hosts.now)) c.args.statuses.now c.args.domains.now c.loop-place.domains c.requires.placed c.loop-place.invariant }

pub loop-place-preserved : goal.loop-place-preserved
loop-place-preserved g c =
    told_next c.args.hosts.now c.loop-place.place _ c.args.statuses.now c.args.domains.now c.loop-place.domains c.record_one.new.domains c.loop-place-test.true c.loop-place.invariant c.record_one.ensures

pub returns : goal.returns
returns g c =
    let numbers = host_numbers c.args.hosts.now in
    let all = take_all c.loop-place.place numbers (omega (arith, length-host_numbers c.args.hosts.now, c.loop-place-test.false)) in
    c.loop-place.invariant ∙ ap (λ l. told_places l c.args.statuses.now c.args.domains.now) all
