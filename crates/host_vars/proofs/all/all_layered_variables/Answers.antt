use Rattle.std.proofs.Common.{◌≡◌, ℕ, ◌∙◌, ◌<◌, List, length, get_or, map, ap, sym, subst, arith}
use Rattle.std.proofs.lemmas.List.{length-map}
use Rattle.std.proofs.lemmas.List.FromFn.{length-map-range_with_len}
use Rattle.fleet_index.specs.NumberLists.{list_at, has_number, numbers_where}
use Rattle.group_tree.specs.Subtrees.{Host}
use Rattle.group_tree.specs.Names.{same_name}
use Rattle.domains.specs.Numbered.{host_at}
use Rattle.domains.specs.Walked.{walked_groups}
use Rattle.host_vars.specs.Own.{hosts_shown, listed_at}
use Rattle.host_vars.specs.Tables.{group_layer, layer_views}
use Rattle.host_vars.specs.Walked.{walked_at}
use Rattle.host_vars.proofs.OrderLemmas.{all_below}
use Rattle.host_vars.proofs.LentLemmas.{walk_lent, all_lent, once_lent, order_lent}
use Rattle.host_vars.proofs.AllLemmas.{all_in, all_made, long_views, stands_in, tested}
use Rattle.host_vars.proofs.all.all_layered_variables.Goals as goal

pub list_all_layers-requires : goal.list_all_layers-requires
list_all_layers-requires g c =
    all_below (length c.as_slice-groups.result.now) c.in_ok-order.order.items c.as_slice-numbers.result.now
    c.in_ok-order.ensures.each_once c.as_slice-numbers.ensures.value

pub list_members_by-requires : goal.list_members_by-requires
list_members_by-requires g c =
    let groups = c.as_slice-groups.result.now in
    let numbers = c.as_slice-numbers.result.now in
    let walk = c.in_ok-list_walk.ensures.0 in
    let listed : walked_groups groups ≡ walk = ap walked_groups c.as_slice-groups.ensures.value ∙ (rw c.new-walk.ensures.items at c.in_ok-list_walk.ensures.1) in
    let long : length c.args.fleet.now.groups ≡ length groups = all_lent c.args.tree.now _ walk groups c.root.ensures.root listed c.in_ok-list_walk.ensures.2 c.args.fleet.now c.requires in
    let below = all_below (length groups) c.in_ok-order.order.items numbers c.in_ok-order.ensures.each_once c.as_slice-numbers.ensures.value in
    λ k d l.
    subst (λ (n : ℕ). get_or numbers k d < n) (sym long) (below k d l)

pub share_all-requires-clause-holders : goal.share_all-requires-clause-holders
share_all-requires-clause-holders g c =
    let members = c.in_ok-members.members in
    ap length c.in_ok-holders.ensures
    ∙ length-map-range_with_len (λ host. numbers_where (stands_in members host) (length members)) 0 c.hosts.result
    ∙ c.hosts.ensures.count

pub share_all-requires-clause-own : goal.share_all-requires-clause-own
share_all-requires-clause-own g c =
    let listed = c.in_ok-hosts_of_rows.hosts_of_rows in
    ap length c.in_ok-own.ensures
    ∙ length-map-range_with_len (λ host. numbers_where (stands_in listed host) (length listed)) 0 c.hosts-2.result
    ∙ c.hosts-2.ensures.count

pub share_all-requires-clause-layers_in : goal.share_all-requires-clause-layers_in
share_all-requires-clause-layers_in g c =
    let members = c.in_ok-members.members in
    let layers = c.as_slice-2.result.now in
    let groups = walked_groups c.as_slice-groups.result.now in
    let numbers = c.as_slice-numbers.result.now in
    let views = long_views c.in_ok-layers.layers.items (λ number. group_layer (walked_at groups number).0) numbers c.in_ok-layers.ensures in
    let as_many : length layers ≡ length numbers = ap length c.as_slice-2.ensures.value ∙ views in
    let long : length members ≡ length layers = ap length c.in_ok-members.ensures.members ∙ length-map numbers (list_at c.args.fleet.now.members) ∙ sym as_many in
    all_in (stands_in members) (length members) c.hosts.result (length layers) c.in_ok-holders.holders c.in_ok-holders.ensures long

pub share_all-requires-clause-rows_in : goal.share_all-requires-clause-rows_in
share_all-requires-clause-rows_in g c =
    let listed = c.in_ok-hosts_of_rows.hosts_of_rows in
    let long : length listed ≡ length c.as_slice-3.result.now = c.in_ok-hosts_of_rows.ensures.len ∙ ap length c.as_slice.ensures.value ∙ sym (ap length c.as_slice-3.ensures.value) in
    all_in (stands_in listed) (length listed) c.hosts-2.result (length c.as_slice-3.result.now) c.in_ok-own.own c.in_ok-own.ensures long

pub returns : goal.returns
returns g c =
    let lent = c.as_slice-groups.result.now in
    let groups = walked_groups lent in
    let order = c.as_slice-numbers.result.now in
    let members = c.in_ok-members.members in
    let listed = c.in_ok-hosts_of_rows.hosts_of_rows in
    let rows = c.as_slice-3.result.now in
    let hosts = c.args.fleet.now.hosts in
    let walk = c.in_ok-list_walk.ensures.0 in
    let all : groups ≡ walk = ap walked_groups c.as_slice-groups.ensures.value ∙ (rw c.new-walk.ensures.items at c.in_ok-list_walk.ensures.1) in
    let walked = walk_lent c.args.tree.now _ walk lent c.root.ensures.root all c.in_ok-list_walk.ensures.2 in
    let once = once_lent lent c.in_ok-order.order.items order c.as_slice-numbers.ensures.value c.in_ok-order.ensures.each_once in
    let ordered = order_lent lent c.in_ok-order.order.items order c.as_slice-numbers.ensures.value c.in_ok-order.ensures.ordered in
    let same_rows : rows ≡ c.as_slice.result.now = c.as_slice-3.ensures.value ∙ sym c.as_slice.ensures.value in
    let laid : layer_views c.as_slice-2.result.now ≡ map (λ number. group_layer (walked_at groups number).0) order = ap layer_views c.as_slice-2.ensures.value ∙ c.in_ok-layers.ensures in
    let holders = c.in_ok-holders.ensures ∙ ap (tested (stands_in members) (length members)) c.hosts.ensures.count in
    let own = c.in_ok-own.ensures ∙ ap (tested (stands_in listed) (length listed)) c.hosts-2.ensures.count in
    let rows_are = ap hosts_shown c.as_slice-3.ensures.value ∙ c.in_ok-rows.ensures.hosts in
    let long : length listed ≡ length (hosts_shown rows) = c.in_ok-hosts_of_rows.ensures.len ∙ sym (ap length same_rows) ∙ sym (length-map rows (λ row. row.host.now)) in
    let told : (row host : ℕ) → row < length (hosts_shown rows) → host < length hosts → has_number host (list_at listed row) ≡ same_name (host_at hosts host) (listed_at (hosts_shown rows) row).name =
    λ row host k l. c.in_ok-hosts_of_rows.ensures.own row host (omega (arith, ap length same_rows, length-map rows (λ row. row.host.now))) l
    ∙ ap (λ (r : List Host). same_name (host_at hosts host) (listed_at r row).name) (ap hosts_shown (sym same_rows)) in
    all_made c.args.tree.now c.args.fleet.now groups order c.requires walked once ordered c.as_slice-2.result.now members c.in_ok-holders.holders listed c.in_ok-own.own
    (hosts_shown rows) c.in_ok-hosts.hosts.items laid c.in_ok-members.ensures.members holders rows_are long told own c.in_ok-hosts.ensures
