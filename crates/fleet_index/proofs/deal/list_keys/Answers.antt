use Rattle.std.proofs.Common.{ap, ◌∙◌, ◌≡◌, [], true, sym, subst, List, ℕ}
use Rattle.std.proofs.lemmas.List.{length-map}
use Rattle.group_tree.specs.declared.ids.GroupId.{GroupId}
use Rattle.fleet_index.specs.NumberLists.{are_below}
use Rattle.fleet_index.specs.Ids.{group_lists}
use Rattle.fleet_index.specs.DealOrder.{deal_key, numbered_bound}
use Rattle.fleet_index.proofs.ListLemmas.{lent_list}
use Rattle.fleet_index.proofs.DealLemmas.{keys_more}
use Rattle.fleet_index.proofs.deal.list_keys.Goals as goal

pub deal_key-key-requires : goal.deal_key-key-requires
deal_key-key-requires c =
    let chains = c.args.chains.now in
    let lent = lent_list (λ (group : GroupId). group.index) chains c.loop-host.host c.index-chains-host.result c.as_slice.result.now c.loop-host-test.true c.index-chains-host.is c.as_slice.ensures.value in
    subst (λ (chain : List ℕ). are_below numbered_bound chain ≡ true) (sym lent) (c.requires c.loop-host.host [] (simp length-map c.loop-host-test.true))

pub loop-host-preserved : goal.loop-host-preserved
loop-host-preserved c =
    let chains = c.args.chains.now in
    let lent = lent_list (λ (group : GroupId). group.index) chains c.loop-host.host c.index-chains-host.result c.as_slice.result.now c.loop-host-test.true c.index-chains-host.is c.as_slice.ensures.value in
    keys_more (group_lists chains) c.loop-host.keys.items c.push.new.self.items c.loop-host.host c.deal_key-key.result c.loop-host.invariant
    (c.deal_key-key.ensures ∙ ap deal_key lent) c.in_ok-push.ensures.items
