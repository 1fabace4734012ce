use Rattle.std.proofs.Common.{◌≡◌, ◌≤◌, ℕ, List, length, sym, ap, ◌∙◌, arith}
use Rattle.domains.specs.Ids.{host_numbers}
use Rattle.fleet_states.proofs.HostLemmas.{length-host_numbers}
use Rattle.fleet_states.proofs.StatusLemmas.{length-given}
use Rattle.fleet_states.specs.Batches.{fails_in, status_after}
use Rattle.rehearse.proofs.BatchLemmas.{closed, halt_fits, written_over}
use Rattle.rehearse.proofs.advance.close_batch.Goals as goal

pub end_with-end-requires : goal.end_with-end-requires
end_with-end-requires c = halt_fits (fails_in c.args.failing.now) (host_numbers c.next_batch-batch.result.now) c.args.max_fail c.args.steps c.halt-halt.result c.halt-halt.ensures c.ranges.steps.fits

pub returns : goal.returns
returns c =
    let fails = fails_in c.args.failing.now in
    let hosts : List ℕ = host_numbers c.next_batch-batch.result.now in
    let lent = c.as_mut_slice.result.now in
    let copied = c.as_mut_slice.ensures.value ∙ c.in_ok-statuses.ensures.items ∙ c.as_slice.ensures.value in
    let long = ap length c.end_batch.ensures ∙ length-given (λ host. status_after c.halt-halt.result (fails host)) hosts lent ∙ ap length c.as_mut_slice.ensures.value in
    let within : length c.in_ok-statuses.statuses.items ≤ c.in_ok-statuses.statuses.len = omega (arith, c.in_ok-statuses.statuses.ok) in
    closed fails c.args.max_fail c.args.steps c.args.boundary.now hosts lent _ c.halt-halt.result c.failed_in.result (length c.next_batch-batch.result.now) c.end_with-end.result
    c.next_batch-batch.ensures copied c.halt-halt.ensures c.failed_in.ensures (sym (length-host_numbers c.next_batch-batch.result.now)) c.end_with-end.ensures
    (written_over c.in_ok-statuses.statuses.len c.end_batch.new.statuses c.in_ok-statuses.statuses.items long within ∙ c.end_batch.ensures)
