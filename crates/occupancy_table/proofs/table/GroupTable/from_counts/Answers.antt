use Rattle.std.proofs.Common.{List, ℕ, ◌++◌, ◌∷◌, [], Vec, Global, map, sym, ap, ◌∙◌, refl}
use Rattle.fleet_states.specs.declared.status.Status.TheVariants.{Running}
use Rattle.fleet_states.proofs.StatusLemmas.{changed_none}
use Rattle.occupancy_table.specs.Columns.{now}
use Rattle.occupancy_table.proofs.CellLemmas.{column_stands}
use Rattle.occupancy_table.proofs.table.GroupTable.from_counts.Goals as goal

pub returns : goal.returns
returns g c =
    let counted = c.args.domains.now in
    let statuses = c.args.statuses.now in
    let first = c.in_ok-first.first in
    let items = c.in_ok-push.ensures.items ∙ ap (λ (l : List (Vec ℕ Global)). l ++ first ∷ []) c.new-columns.ensures.items in
    let stands = column_stands counted.fleet (now statuses) statuses counted first.items c.requires.counts (sym (changed_none (λ _. Running) statuses)) refl c.in_ok-first.ensures in
    record {
      groups = c.in_ok-groups.ensures;
      counts = ap (λ (l : List (Vec ℕ Global)). map (λ column. column.items) l) items ∙ ap (λ (l : List ℕ). l ∷ []) stands;
    }
