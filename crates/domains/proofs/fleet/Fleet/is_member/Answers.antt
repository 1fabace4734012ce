use Rattle.std.proofs.Common.{rules, ◌∙◌, ℕ, length, ap}
use Rattle.std.proofs.lemmas.Fn.{always_returns_same}
use Rattle.group_tree.specs.declared.ids.HostId.{HostId}
use Rattle.fleet_index.specs.NumberLists.{has_number}
use Rattle.domains.specs.FleetViews.{FleetView}
use Rattle.domains.proofs.ReaderLemmas.{found_number, members_lent}
use Rattle.domains.proofs.fleet.Fleet.is_member.Goals as goal

pub returns : goal.returns
returns c =
    let fleet : FleetView = c.args.self.now in
    let h : ℕ = c.args.host.index in
    let hosts = c.as_slice-members.result.now in
    let lent =
    members_lent c.self.inside fleet c.args.group.index c.index.result.now c.as_slice-members.result.now
    c.self.view_is c.self.invariant.sound c.requires c.index.ensures c.as_slice-members.ensures.value in
    let found = c.binary_search_by_key.ensures.position (λ (own : HostId). own.index) (always_returns_same _ _ _ (λ a r g h. search rules)) in
    c.is_ok.ensures.value ∙ found_number (length fleet.hosts) hosts h c.binary_search_by_key.result lent.1 found c.binary_search_by_key.ensures.bound ∙ ap (has_number h) lent.0
