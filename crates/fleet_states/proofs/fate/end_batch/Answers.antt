use Rattle.std.proofs.Common.{ℕ, List, length, get_or, set, take, sym, ap, ◌∙◌, arith}
use Rattle.group_tree.specs.declared.ids.HostId.{HostId}
use Rattle.fleet_index.specs.Ids.{host_numbers}
use Rattle.fleet_states.specs.declared.status.Status.{Status}
use Rattle.fleet_states.proofs.StatusLemmas.{given_more_host, given_none, given_past_host, length-given}
use Rattle.fleet_states.specs.Batches.{fails_in, status_after}
use Rattle.fleet_states.proofs.fate.end_batch.Goals as goal
use Rattle.fleet_states.proofs.fate.end_batch.Goals.{then-host-statuses, else-host-statuses}

pub loop-host-init : goal.loop-host-init
loop-host-init c = sym (given_none (λ host. status_after c.args.halt (fails_in c.args.failing.now host)) c.args.statuses.now)

pub loop-host-preserved : goal.loop-host-preserved
loop-host-preserved c =
    let batch = c.args.batch.now in
    let statuses = c.args.statuses.now in
    let i : ℕ = c.loop-host.host-index in
    let none : HostId = record { index = 0 } in
    let at : ℕ = (get_or batch i none).index in
    let fate : ℕ → Status = λ host. status_after c.args.halt (fails_in c.args.failing.now host) in
    let was = c.loop-host.invariant in
    let long = ap length was ∙ length-given fate (take i (host_numbers batch)) statuses in
    elim c.if-host-statuses.branch [
      | then-host-statuses w ↦ w.statuses-is ∙ ap (λ (l : List Status). set l at w.status_after.result) was
          ∙ given_more_host fate batch i none c.loop-host-test.true statuses w.status_after.result (omega (arith, w.if-host-statuses.true, long))
          (w.status_after.ensures ∙ ap (status_after c.args.halt) w.failing_step.ensures)
      | else-host-statuses w ↦ w.statuses-is ∙ was ∙ given_past_host fate batch i none c.loop-host-test.true statuses (omega (arith, w.if-host-statuses.false, long))
    ]
