use Rattle.std.proofs.Common.{◌≡◌, ◌∙◌, IfOk, List, Global, map, ap, subst}
use Rattle.std.specs.String.{string_bytes}
use Rattle.group_tree.specs.Names.{Name}
use Rattle.fleet_index.specs.SortedNames.{sorted_names}
use Rattle.domains.specs.declared.rows.HostRow.{HostRow}
use Rattle.domains.proofs.ListedLemmas.{sorted_alike, lent_names}
use Rattle.domains.proofs.names.list_hosts.Goals as goal

pub returns : goal.returns
returns g c =
    let names : List Name = map {A = HostRow g.row.A.Denot} (λ row. row.host.now.name) c.args.rows.now in
    let own : lent_names c.as_slice.result.now ≡ sorted_names names =
    ap lent_names c.as_slice.ensures.value
    ∙ c.in_ok-make_distinct.ensures.ok
    ∙ sorted_alike (lent_names c.in_ok-names.names.items) names c.in_ok-names.ensures in
    subst (λ (l : List Name). IfOk c.own_names.result (λ hosts. map (string_bytes {Z = Global}) hosts.items ≡ l)) own c.own_names.ensures
