-- A host's own variables, from the groups that list it.
use Rattle.std.specs.Prelude.{ℕ, List, [], filter, map, slice_index_or}
use Rattle.std.specs.List.{flat_map}
use Rattle.group_tree.specs.Names.{Name, same_name}
use Rattle.group_tree.specs.Variables.{Variable}
use Rattle.group_tree.specs.Subtrees.{Host, Subtree}
use Rattle.domains.specs.declared.rows.HostRow.{HostRow}

abbrev pub own_in : Name → List Host → List Variable
own_in name hosts =
    flat_map (λ (host : Host). host.variables) (filter (λ (host : Host). same_name name host.name) hosts)

abbrev pub own_below : Name → List (Subtree × ℕ) → List Variable
own_below name walk = flat_map (λ (walked : Subtree × ℕ). own_in name walked.0.hosts) walk

abbrev pub hosts_shown : {A : Type 0} → List (HostRow A) → List Host
hosts_shown {A} rows = map (λ (row : HostRow A). row.host.now) rows

-- the row at an index, or one without a name past the end
abbrev pub listed_at : List Host → ℕ → Host
listed_at rows place = slice_index_or rows place (record { name = []; variables = [] })

abbrev pub variables_at : List Host → List ℕ → List Variable
variables_at rows places = flat_map (λ place. (listed_at rows place).variables) places
