use Rattle.std.proofs.Common.{ℕ, set, sym, ap, ◌∙◌, get_or}
use Rattle.group_tree.specs.declared.ids.HostId.{HostId}
use Rattle.fleet_states.specs.declared.status.Status.{Status}
use Rattle.fleet_states.proofs.StatusLemmas.{changed_none}
use Rattle.journal.specs.States.{stood_up}
use Rattle.journal.proofs.MendLemmas.{mended_more}
use Rattle.journal.proofs.resuming.mend.Goals as goal

pub loop-host-init : goal.loop-host-init
loop-host-init c = sym (changed_none stood_up c.args.statuses.now)

pub loop-host-preserved : goal.loop-host-preserved
loop-host-preserved c =
    let none : HostId = record { index = 0 } in
    let at : ℕ = (get_or c.args.hosts.now c.loop-host.host-index none).index in
    c.set_status.ensures ∙ ap (λ (s : Status). set c.loop-host.statuses at s) (c.stand_up.ensures ∙ ap stood_up c.status_of.ensures)
    ∙ mended_more c.args.hosts.now c.loop-host.host-index none c.loop-host-test.true c.args.statuses.now c.loop-host.statuses c.loop-host.invariant
