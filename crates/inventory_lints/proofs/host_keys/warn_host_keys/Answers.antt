use Rattle.std.proofs.Common.{◌≡◌, ◌++◌, List, ap, subst, ◌∙◌}
use Rattle.group_tree.specs.Places.{Inventory}
use Rattle.domains.specs.Walked.{walked_groups}
use Rattle.domains.specs.Walks.{IsWalkOf}
use Rattle.lint_rules.specs.Notes.{Note}
use Rattle.inventory_lints.proofs.HostKeyLemmas.{rows_walked}
use Rattle.inventory_lints.proofs.NotedLemmas.{on_ok}
use Rattle.inventory_lints.proofs.host_keys.warn_host_keys.Goals as goal

pub returns : goal.returns
returns g c =
    let groups = c.as_slice.result.now in
    let walk = c.in_ok-list_walk.ensures.0 in
    let listed : walked_groups groups ≡ walk = ap walked_groups c.as_slice.ensures.value ∙ (rw c.new-groups.ensures.items at c.in_ok-list_walk.ensures.1) in
    let walked : IsWalkOf c.args.tree.now 0 walk = subst (λ (i : Inventory). IsWalkOf i 0 walk) c.root.ensures.root c.in_ok-list_walk.ensures.2 in
    on_ok c.warn_walk.result c.warn_walk.new.notes _ _ c.warn_walk.ensures (ap (λ (l : List Note). c.args.notes.now ++ l) (rows_walked c.args.tree.now 0 walk groups listed walked))
