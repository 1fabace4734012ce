use Rattle.std.proofs.Common.{ℕ, List, length, get_or, set, take, sym, ap, ◌∙◌, refl, arith}
use Rattle.group_tree.specs.declared.ids.HostId.{HostId}
use Rattle.fleet_states.specs.declared.status.Status.{Status}
use Rattle.domains.specs.Ids.{host_numbers}
use Rattle.fleet_states.proofs.HostLemmas.{host_below}
use Rattle.fleet_states.proofs.StatusLemmas.{length-changed, changed_none, changed_more_host}
use Rattle.down_ledger.proofs.marks.set_all.Goals as goal

pub loop-host-init : goal.loop-host-init
loop-host-init c = sym (changed_none (λ _. c.args.status) c.args.statuses.now)

pub bounds-statuses-host : goal.bounds-statuses-host
bounds-statuses-host c =
    let statuses = c.args.statuses.now in
    let hosts = c.args.hosts.now in
    let i = c.loop-host.host-index in
    let below = host_below (length statuses) hosts i (record { index = 0 }) c.requires c.loop-host-test.true in
    omega (arith, below, ap length c.loop-host.invariant, length-changed (λ _. c.args.status) (take i (host_numbers hosts)) statuses)

pub loop-host-preserved : goal.loop-host-preserved
loop-host-preserved c =
    let statuses = c.args.statuses.now in
    let hosts = c.args.hosts.now in
    let i = c.loop-host.host-index in
    let within = c.loop-host-test.true in
    let none : HostId = record { index = 0 } in
    let host : ℕ = (get_or hosts i none).index in
    let below = host_below (length statuses) hosts i none c.requires within in
    ap (λ (l : List Status). set l host c.args.status) c.loop-host.invariant ∙ changed_more_host hosts i none within (λ _. c.args.status) statuses c.args.status below refl
