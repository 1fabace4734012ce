use Rattle.std.proofs.Common.{◌≡◌, ◌∙◌, ◌||◌, ◌+◌, ◌<◌, ℕ, List, [], length, get_or, map, take, sym, ap}
use Rattle.std.proofs.lemmas.List.{get_or-map, length-map, take-map, take_all}
use Rattle.group_tree.specs.Names.{Name, same_name, is_among}
use Rattle.domains.specs.declared.rows.HostRow.{HostRow}
use Rattle.std.proofs.lemmas.List.Folds.{list_any_more}
use Rattle.domains.proofs.names.names_of.Goals as goal

pub loop-row-preserved : goal.loop-row-preserved
loop-row-preserved g c = λ other.
    let rows = c.args.rows.now in
    let i : ℕ = c.loop-row.row-index in
    let name_of : HostRow g.row.A.Denot → Name = λ row. row.host.now.name in
    let names : List Name = map name_of rows in
    let within : i < length names = simp length-map c.loop-row-test.true in
    let own : c.name.result.now ≡ get_or names i [] =
    c.name.ensures ∙ ap name_of c.row-item.is ∙ sym (get_or-map name_of rows i c.row-item.result [] c.loop-row-test.true) in
    c.in_ok-near.ensures other
    ∙ ap (λ b. b || same_name other c.name.result.now) (c.loop-row.invariant other ∙ sym (ap (is_among other) (take-map name_of i rows)))
    ∙ ap (λ (n : Name). is_among other (take i names) || same_name other n) own
    ∙ sym (list_any_more (same_name other) names i [] within)
    ∙ ap (is_among other) (take-map name_of (i + 1) rows)

pub returns : goal.returns
returns g c = λ other.
    let name_of : HostRow g.row.A.Denot → Name = λ row. row.host.now.name in
    c.loop-row.invariant other
    ∙ ap (λ (l : List (HostRow g.row.A.Denot)). is_among other (map name_of l)) (take_all c.loop-row.row-index c.args.rows.now c.loop-row-test.false)
