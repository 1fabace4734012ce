use Rattle.std.proofs.Common.{◌≡◌, ◌||◌, ap, subst, ◌∙◌}
use Rattle.std.specs.List.{list_any}
use Rattle.group_tree.specs.Places.{Inventory}
use Rattle.domains.specs.Walked.{walked_groups}
use Rattle.domains.specs.Walks.{IsWalkOf}
use Rattle.step_lints.specs.Given.{group_gives}
use Rattle.step_lints.proofs.GivenLemmas.{given_walked}
use Rattle.step_lints.proofs.definitions.defined_names.Goals as goal

pub returns : goal.returns
returns g c =
    let groups = c.as_slice.result.now in
    let walk = c.in_ok-list_walk.ensures.0 in
    let listed : walked_groups groups ≡ walk = ap walked_groups c.as_slice.ensures.value ∙ (rw c.new-groups.ensures.items at c.in_ok-list_walk.ensures.1) in
    let walked : IsWalkOf c.args.tree.now 0 walk = subst (λ (i : Inventory). IsWalkOf i 0 walk) c.root.ensures.root c.in_ok-list_walk.ensures.2 in
    λ name.
    c.in_ok-add_groups.ensures name
    ∙ ap (λ b. b || list_any (λ w. group_gives name w.group.now) groups) (c.new-given.ensures name)
    ∙ given_walked c.args.tree.now 0 walk groups listed walked name
