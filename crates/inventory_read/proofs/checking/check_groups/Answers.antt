use Rattle.std.proofs.Common.{◌≡◌, ◌+◌, [], ◌∷◌, ◌++◌, map, drop, sym, ap, ◌∙◌}
use Rattle.std.specs.List.{flat_map}
use Rattle.std.proofs.lemmas.List.{append-nil, drop_all}
use Rattle.serde_json.specs.View.{view}
use Rattle.inventory_read.specs.Documents.{below_body, groups_from, with_below}
use Rattle.inventory_read.specs.Keys.{all_key}
use Rattle.inventory_read.specs.Listings.{broken_from, child_of, outline_at, outline_of, way_to}
use Rattle.inventory_read.specs.Paths.{text_path}
use Rattle.inventory_read.specs.Rules.{placed, broken_by_group}
use Rattle.text_syntax.specs.Telling.{with_breaches}
use Rattle.inventory_read.proofs.Checks.{broken_by_children}
use Rattle.inventory_read.proofs.Groups.{listed_all, listed_more, outline_at-standing}
use Rattle.inventory_read.proofs.Steps.{drop_item}
use Rattle.text_syntax.proofs.Tellings.{after, all_told}
use Rattle.inventory_read.proofs.Walks.{pass_child}
use Rattle.inventory_read.proofs.checking.check_groups.Goals as goal

pub loop-child-preserved : goal.loop-child-preserved
loop-child-preserved c =
    let l = c.loop-child in
    let children = c.args.children.now in
    let child = c.child-item.result in
    let next : drop l.child-index children ≡ child ∷ drop (l.child-index + 1) children =
    drop_item children l.child-index child c.loop-child-test.true c.child-item.is in
    let own : c.check_from.new.faults ≡ with_breaches l.faults (broken_from (way_to (child_of child)) child.name.now (view child.body.now)) =
    rw c.in_ok-lead_to.ensures at c.in_ok-check_from.ensures.found in
    let below = with_below child.name.now (view child.body.now) (below_body (view child.body.now)) in
    let listed : map outline_of c.check_from.new.groups.items ≡ map outline_of l.groups.items ++ map (outline_at 2) (groups_from (child_of child)) =
    c.in_ok-check_from.ensures.listed ∙ ap (λ added. map outline_of l.groups.items ++ added) (sym (outline_at-standing 2 child.past_all below)) in
    record {
      found = pass_child _ _ (child_of child) (map child_of (drop (l.child-index + 1) children)) _ own (rw next at l.invariant.found);
      listed =
          listed_more _ _ 2 (groups_from (child_of child)) (flat_map groups_from (map child_of (drop (l.child-index + 1) children))) _ listed (rw next at l.invariant.listed);
    }

pub returns-clause-found : goal.returns-clause-found
returns-clause-found c =
    let l = c.loop-child in
    let children = c.args.children.now in
    let own = map (placed (text_path (all_key ∷ []))) (broken_by_group all_key (view c.args.all.now)) in
    let first : c.check_group.new.faults ≡ with_breaches c.args.faults.now own =
    rw (c.as_slice.ensures.value, c.in_ok-push-2.ensures.items, c.new-names.ensures.items) at c.in_ok-check_group.ensures in
    let done : drop l.child-index children ≡ [] = drop_all l.child-index children c.loop-child-test.false in
    let rest : with_breaches l.faults [] ≡ with_breaches c.check_group.new.faults (broken_by_children (map child_of children)) = rw done at l.invariant.found in
    after _ _ _ own (broken_by_children (map child_of children)) first (all_told l.faults _ rest)

pub returns-clause-listed : goal.returns-clause-listed
returns-clause-listed c =
    let l = c.loop-child in
    let children = c.args.children.now in
    let done : drop l.child-index children ≡ [] = drop_all l.child-index children c.loop-child-test.false in
    let all = sym (append-nil (map outline_of l.groups.items)) ∙ (rw done at l.invariant.listed) in
    listed_all (map outline_of l.groups.items) (view c.args.all.now) (flat_map groups_from (map child_of children)) all
