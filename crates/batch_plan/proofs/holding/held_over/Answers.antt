use Rattle.std.proofs.Common.{◌≡◌, IfOk, List, map, length, sym, ap, ◌∙◌, subst}
use Rattle.group_tree.specs.declared.ids.HostId.{HostId}
use Rattle.domains.specs.Ids.{host_numbers}
use Rattle.domains.specs.FleetViews.{FleetView}
use Rattle.fleet_states.specs.Groups.{groups_of}
use Rattle.batch_plan.specs.Holding.{held_hosts}
use Rattle.batch_plan.specs.Needs.{need_of}
use Rattle.batch_plan.proofs.CountedLemmas.{needs_are}
use Rattle.batch_plan.proofs.HoldingLemmas.{holding_unblocks}
use Rattle.batch_plan.proofs.UnblockedLemmas.{nobody_held_by}
use Rattle.batch_plan.proofs.holding.held_over.Goals as goal

pub list_held-requires : goal.list_held-requires
list_held-requires g c =
    let statuses = c.args.statuses.now in
    let same = sym c.fleet.ensures in
    record {
      all = c.requires.all_hosts ∙ ap (λ (f : FleetView). length f.hosts) same;
      needs = c.as_slice-in-Some.ensures.value ∙ c.in_ok-needs.ensures.needs ∙ needs_are statuses c.args.domains.now c.requires ∙ ap (λ (f : FleetView). map (need_of statuses) (groups_of f)) same;
    }

pub returns-in-Some-clause-hosts : goal.returns-in-Some-clause-hosts
returns-in-Some-clause-hosts g c =
    subst (λ (f : FleetView). IfOk c.list_held.result (λ hosts. host_numbers hosts.items ≡ held_hosts f c.args.statuses.now)) c.fleet.ensures c.list_held.ensures.hosts

pub returns-clause-hosts : goal.returns-clause-hosts
returns-clause-hosts g c =
    let statuses = c.args.statuses.now in
    let needs = c.as_slice.ensures.value ∙ c.in_ok-needs.ensures.needs ∙ needs_are statuses c.args.domains.now c.requires in
    ap (λ (hosts : List HostId). host_numbers hosts) c.new.ensures.items
    ∙ sym (nobody_held_by c.args.domains.now.fleet statuses c.in_ok-needs.ensures.sound c.as_slice.result.now needs c.in-None.ensures)

pub returns-clause-unblocks : goal.returns-clause-unblocks
returns-clause-unblocks g c = holding_unblocks c.args.domains.now.fleet c.args.statuses.now c.requires.all_hosts
