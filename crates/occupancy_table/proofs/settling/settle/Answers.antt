use Rattle.std.proofs.Common.{ℕ, List, get_or, set, sym, ap, ◌∙◌, refl}
use Rattle.group_tree.specs.declared.ids.HostId.{HostId}
use Rattle.fleet_states.specs.declared.status.Status.{Status}
use Rattle.fleet_states.proofs.StatusLemmas.{changed_none}
use Rattle.occupancy_table.proofs.CellLemmas.{changed_next}
use Rattle.occupancy_table.proofs.settling.settle.Goals as goal

pub loop-host-init : goal.loop-host-init
loop-host-init g c =
    record { statuses = sym (changed_none (λ _. c.args.status) c.args.statuses.now); counts = c.requires.counts; fleet = refl }

pub loop-host-preserved : goal.loop-host-preserved
loop-host-preserved g c =
    let hosts = c.args.hosts.now in
    let i : ℕ = c.loop-host.host-index in
    let none : HostId = record { index = 0 } in
    let at : ℕ = (get_or hosts i none).index in
    let status = c.args.status in
    record {
      statuses = c.settle_one.ensures.statuses ∙ ap (λ (l : List Status). set l at status) c.loop-host.invariant.statuses ∙ changed_next status hosts i none c.loop-host-test.true c.args.statuses.now;
      counts = c.settle_one.ensures.counts;
      fleet = c.settle_one.ensures.fleet ∙ c.loop-host.invariant.fleet;
    }
