use Rattle.std.proofs.Common.{◌≡◌, ◌∙◌, length, string_bytes, ap}
use Rattle.std.specs.Arc.{arc_value}
use Rattle.group_tree.specs.Names.{Name}
use Rattle.group_tree.specs.Variables.{value_of}
use Rattle.domains.specs.Walked.{walked_groups}
use Rattle.host_vars.specs.Own.{own_below}
use Rattle.host_vars.specs.Tables.{layer_views, value_in}
use Rattle.host_vars.proofs.OrderLemmas.{all_below}
use Rattle.host_vars.proofs.HostLemmas.{host_made}
use Rattle.host_vars.proofs.LentLemmas.{walk_lent, all_lent, once_lent, order_lent}
use Rattle.host_vars.proofs.layering.layered_variables.Goals as goal

pub list_layers-requires-clause-within : goal.list_layers-requires-clause-within
list_layers-requires-clause-within g c =
    all_below (length c.as_slice-groups.result.now) c.in_ok-order.order.items c.as_slice.result.now
    c.in_ok-order.ensures.each_once c.as_slice.ensures.value

pub list_layers-requires-clause-same : goal.list_layers-requires-clause-same
list_layers-requires-clause-same g c =
    let groups = c.as_slice-groups.result.now in
    let walk = c.in_ok-list_walk.ensures.0 in
    let listed : walked_groups groups ≡ walk = ap walked_groups c.as_slice-groups.ensures.value ∙ (rw c.new-walk.ensures.items at c.in_ok-list_walk.ensures.1) in
    all_lent c.args.tree.now _ walk groups c.root.ensures.root listed c.in_ok-list_walk.ensures.2 c.args.fleet.now c.requires.fleet

pub returns : goal.returns
returns g c =
    let groups = c.as_slice-groups.result.now in
    let order = c.as_slice.result.now in
    let walk = c.in_ok-list_walk.ensures.0 in
    let listed : walked_groups groups ≡ walk = ap walked_groups c.as_slice-groups.ensures.value ∙ (rw c.new-walk.ensures.items at c.in_ok-list_walk.ensures.1) in
    let walked = walk_lent c.args.tree.now _ walk groups c.root.ensures.root listed c.in_ok-list_walk.ensures.2 in
    let once = once_lent groups c.in_ok-order.order.items order c.as_slice.ensures.value c.in_ok-order.ensures.each_once in
    let ordered = order_lent groups c.in_ok-order.order.items order c.as_slice.ensures.value c.in_ok-order.ensures.ordered in
    let named : string_bytes c.in_ok-from_str.field-0 ≡ c.name-name.result.now = c.in_ok-from_str.ensures.ok in
    let layers = (arc_value c.in_ok-list_layers.field-0).items in
    host_made c.args.tree.now c.args.fleet.now c.args.host.index (walked_groups groups) order c.requires.fleet c.requires.host walked once ordered
    (string_bytes c.in_ok-from_str.field-0) (layer_views layers) (value_in c.in_ok-own_table.field-0) (named ∙ c.name-name.ensures) c.in_ok-list_layers.ensures
    (λ (variable : Name). c.in_ok-own_table.ensures variable ∙ ap (λ (n : Name). value_of variable (own_below n (walked_groups groups))) c.name-name.ensures)
