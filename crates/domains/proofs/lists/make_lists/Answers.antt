use Rattle.std.proofs.Common.{◌≡◌, ◌∙◌, ◌≤◌, ◌<◌, ℕ, List, [], Vec, Global, map, filter, option_map, length, get_or, ap, subst, arith, Bool}
use Rattle.std.specs.String.{string_bytes}
use Rattle.std.proofs.lemmas.List.{length-map}
use Rattle.std.proofs.lemmas.List.FromFn.{length-map-range_with_len}
use Rattle.group_tree.specs.Limits.{limit_of}
use Rattle.group_tree.specs.declared.ids.HostId.{HostId}
use Rattle.fleet_index.specs.NumberLists.{IsRising, has_number, list_at}
use Rattle.fleet_index.specs.GroupPaths.{paths_from, is_member}
use Rattle.fleet_index.specs.Chains.{is_limited}
use Rattle.fleet_index.proofs.PathLemmas.{length-paths_from}
use Rattle.domains.specs.Ids.{group_lists, host_lists}
use Rattle.domains.specs.FleetLists.{allowed_counts}
use Rattle.domains.proofs.ByNumber.{groups_held, held_lists, hosts_under, member_lists}
use Rattle.domains.proofs.MadeLemmas.{lists_rise, made, paths_within, short_list}
use Rattle.domains.proofs.lists.make_lists.Goals as goal

pub list_held-requires-clause-groups_in : goal.list_held-requires-clause-groups_in
list_held-requires-clause-groups_in c = λ k d l.
    let rows = c.args.numbers.now.rows.items in
    let row : get_or c.as_slice-rows.result.now k d ≡ get_or rows k d = ap (λ (r : List (ℕ × ℕ)). get_or r k d) c.as_slice-rows.ensures.value in
    omega (
      arith,
      c.requires.groups_in k d (omega (arith, l, ap length c.as_slice-rows.ensures.value)),
      ap (λ (r : ℕ × ℕ). r.1) row,
      ap length c.in_ok-paths.ensures.paths,
      length-paths_from [] 0 c.as_slice-depths.result.now,
      ap length c.as_slice-depths.ensures.value,
    )

pub list_hosts_by_group-requires : goal.list_hosts_by_group-requires
list_hosts_by_group-requires c =
    let long : length c.in_ok-paths.paths ≡ length c.as_slice-depths.result.now = ap length c.in_ok-paths.ensures.paths ∙ length-paths_from [] 0 c.as_slice-depths.result.now in
    λ k d l.
    let paths : List (List ℕ) = c.in_ok-paths.paths in
    let held : List (List ℕ) = c.in_ok-held.held in
    let member : ℕ → ℕ → Bool = λ host group. is_member paths c.as_slice-rows.result.now group host in
    subst (λ (n : ℕ). IsRising n (get_or held k d)) long (lists_rise member (length paths) c.len-hosts.result held c.in_ok-held.ensures k d l)

pub list_allowed-requires-clause-len : goal.list_allowed-requires-clause-len
list_allowed-requires-clause-len c =
    omega (
      arith,
      c.requires.len,
      ap length c.as_slice.ensures.value,
      ap length c.as_slice-depths.ensures.value,
      ap (λ (lists : List (Vec HostId Global)). length (host_lists lists)) c.as_slice-2.ensures.value,
      ap length c.in_ok-members.ensures,
      length-map-range_with_len (hosts_under c.in_ok-held.held) 0 (length c.as_slice-depths.result.now),
    )

pub list_allowed-requires-clause-few : goal.list_allowed-requires-clause-few
list_allowed-requires-clause-few c = λ k d l.
    let count : length c.in_ok-held.held ≡ c.len-hosts.result =
    ap length c.in_ok-held.ensures
    ∙ length-map-range_with_len (groups_held c.in_ok-paths.paths c.as_slice-rows.result.now (length c.in_ok-paths.paths)) 0 c.len-hosts.result in
    let held : List (List ℕ) = c.in_ok-held.held in
    let members : List (List ℕ) = host_lists c.in_ok-members.members.items in
    let lent : host_lists c.as_slice-2.result.now ≡ members = ap host_lists c.as_slice-2.ensures.value in
    let inside : k < length members = omega (arith, l, ap length lent) in
    let short : length (get_or members k d) ≤ length held =
    short_list (λ group host. has_number group (list_at held host)) (length held) (length c.as_slice-depths.result.now) members c.in_ok-members.ensures k d inside in
    omega (arith, short, ap (λ (lists : List (List ℕ)). length (get_or lists k d)) lent, count, c.len-hosts.ensures, c.requires.few)

pub list_subtree_ends-requires : goal.list_subtree_ends-requires
list_subtree_ends-requires c =
    paths_within c.as_slice-depths.result.now c.in_ok-paths.paths c.in_ok-paths.ensures.paths

pub returns : goal.returns
returns c =
    let depths = c.args.numbers.now.depths.items in
    let rows = c.args.numbers.now.rows.items in
    let limits = map (option_map limit_of) c.args.numbers.now.limits.items in
    let hosts : ℕ = length (map (string_bytes {Z = Global}) c.args.numbers.now.hosts.items) in
    let count : c.len-hosts.result ≡ hosts =
    omega (arith, c.len-hosts.ensures, c.args.numbers.now.hosts.ok.0, length-map c.args.numbers.now.hosts.items (string_bytes {Z = Global})) in
    let paths : c.in_ok-paths.paths ≡ paths_from [] 0 depths = c.in_ok-paths.ensures.paths ∙ ap (paths_from [] 0) c.as_slice-depths.ensures.value in
    let held : c.in_ok-held.held ≡ held_lists c.in_ok-paths.paths rows (length c.in_ok-paths.paths) hosts = rw (c.as_slice-rows.ensures.value, count) at c.in_ok-held.ensures in
    let members : host_lists c.in_ok-members.members.items ≡ member_lists c.in_ok-held.held (length depths) = rw c.as_slice-depths.ensures.value at c.in_ok-members.ensures in
    let counts : c.in_ok-limits.limits.items ≡ allowed_counts limits (host_lists c.in_ok-members.members.items) = rw (c.as_slice.ensures.value, c.as_slice-2.ensures.value) at c.in_ok-limits.ensures in
    let chains : group_lists c.in_ok-list_chains.field-0.items ≡ map (filter (is_limited c.in_ok-limits.limits.items)) c.in_ok-held.held =
    rw c.as_slice-3.ensures.value at c.in_ok-list_chains.ensures in
    let parents = c.in_ok-list_parents.field-0.items in
    let ends = c.in_ok-list_subtree_ends.field-0.items in
    made hosts limits depths rows c.in_ok-limits.limits.items (group_lists c.in_ok-list_chains.field-0.items) (host_lists c.in_ok-members.members.items) c.in_ok-held.held
    c.in_ok-paths.paths parents ends paths held members counts chains c.in_ok-list_parents.ensures c.in_ok-list_subtree_ends.ensures
