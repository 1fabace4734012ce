use Rattle.std.proofs.Common.{◌≡◌, Bool, ℕ, List, length, ap, ◌∙◌, refl, arith}
use Rattle.fleet_states.specs.Statuses.{is_waiting, status_at}
use Rattle.fleet_states.specs.declared.status.Status.{Status}
use Rattle.command_preview.proofs.Waiting.{waiting_more, within_more}
use Rattle.command_preview.proofs.hosts.list_hosts.Goals as goal

pub loop-index-preserved : goal.loop-index-preserved
loop-index-preserved c =
    let statuses : List Status = c.in_ok-statuses.statuses.items in
    let i : ℕ = c.loop-index.index in
    let so : c.is_waiting-is_waiting.result ≡ is_waiting (status_at statuses i) =
    c.is_waiting-is_waiting.ensures ∙ ap is_waiting c.status_of.ensures ∙ ap (λ (l : List Status). is_waiting (status_at l i)) c.as_slice.ensures.value in
    let old = c.loop-index.hosts.items in
    let new = c.push_if.new.hosts.items in
    let waits : Bool = c.is_waiting-is_waiting.result in
    record {
      are = waiting_more (λ host. is_waiting (status_at statuses host)) i old new _ waits c.loop-index.invariant.are refl so c.in_ok-push_if.ensures;
      within = within_more (length c.args.fleet.now.hosts) old new _ waits c.loop-index.invariant.within (omega arith) c.in_ok-push_if.ensures;
    }
