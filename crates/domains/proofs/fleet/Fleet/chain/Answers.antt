use Rattle.std.proofs.Common.{◌≡◌, ◌∙◌, ℕ, length, sym, ap, subst}
use Rattle.group_tree.specs.declared.ids.GroupId.{GroupId}
use Rattle.fleet_index.specs.NumberLists.{list_at, has_number}
use Rattle.domains.specs.Ids.{group_numbers}
use Rattle.domains.specs.FleetViews.{FleetView, IsSound}
use Rattle.domains.proofs.ReaderLemmas.{lent_within, chain_lent}
use Rattle.domains.proofs.fleet.Fleet.chain.Goals as goal

pub returns : goal.returns
returns c =
    let fleet : FleetView = c.args.self.now in
    let h : ℕ = c.args.host.index in
    let sound : IsSound fleet = subst IsSound c.self.view_is c.self.invariant.sound in
    let lent = chain_lent c.self.inside fleet h c.index.result.now c.as_slice.result.now c.self.view_is c.self.invariant.sound c.requires c.index.ensures c.as_slice.ensures.value in
    let among : (g : ℕ) → has_number g (group_numbers c.as_slice.result.now) ≡ has_number g (list_at fleet.chains h) = λ g. ap (has_number g) lent.0 in
    record {
      chain = lent.0;
      within = lent_within (λ (group : GroupId). group.index) (length fleet.groups) c.as_slice.result.now lent.1;
      rise = lent.1;
      exact = λ g. among g ∙ sound.chain_exact h g;
      nested = λ outer inner l e f. sound.inner_members h outer inner l (sym (among outer) ∙ e) (sym (among inner) ∙ f);
    }
