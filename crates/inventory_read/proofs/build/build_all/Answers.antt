use Rattle.std.proofs.Common.{◌≡◌, ◌+◌, ◌∷◌, map, drop, refl, sym, ap, ◌∙◌}
use Rattle.std.specs.List.{flat_map}
use Rattle.serde_json.specs.View.{view}
use Rattle.group_tree.specs.Subtrees.{Subtree}
use Rattle.inventory_read.specs.Documents.{below_body, groups_from, with_below}
use Rattle.inventory_read.specs.Keys.{all_key}
use Rattle.inventory_read.specs.Listings.{child_of}
use Rattle.inventory_read.proofs.Builds.{inventory-standing, reach-with_child}
use Rattle.inventory_read.proofs.Named.{below_named, parts_named, standing_named}
use Rattle.inventory_read.proofs.Steps.{drop_item}
use Rattle.inventory_read.proofs.build.build_all.Goals as goal

pub loop-child-init : goal.loop-child-init
loop-child-init g c =
    record {
      named = refl;
      built = refl;
      names = below_named all_key (view c.args.all.now) (flat_map groups_from (map child_of c.args.children.now)) c.requires;
    }

pub build-requires : goal.build-requires
build-requires g c =
    let l = c.loop-child in
    let children = c.args.children.now in
    let child = c.child-item.result in
    let next : drop l.child-index children ≡ child ∷ drop (l.child-index + 1) children =
    drop_item children l.child-index child c.loop-child-test.true c.child-item.is in
    let own = with_below child.name.now (view child.body.now) (below_body (view child.body.now)) in
    let more = flat_map groups_from (map child_of (drop (l.child-index + 1) children)) in
    sym (standing_named child.past_all own) ∙ (parts_named (groups_from (child_of child)) more (rw next at l.invariant.names)).0

pub loop-child-preserved : goal.loop-child-preserved
loop-child-preserved g c =
    let l = c.loop-child in
    let children = c.args.children.now in
    let child = c.child-item.result in
    let next : drop l.child-index children ≡ child ∷ drop (l.child-index + 1) children =
    drop_item children l.child-index child c.loop-child-test.true c.child-item.is in
    let more = flat_map groups_from (map child_of (drop (l.child-index + 1) children)) in
    record {
      named = ap (λ (group : Subtree). group.name) c.in_ok-add_child.ensures.ok ∙ l.invariant.named;
      built =
          reach-with_child l.group c.in_ok-build.field-0 c.add_child.new.self (groups_from (child_of child)) more c.in_ok-add_child.ensures.ok
          (c.in_ok-build.ensures ∙ sym (inventory-standing child.past_all (with_below child.name.now (view child.body.now) (below_body (view child.body.now))))) ∙ (rw next at l.invariant.built);
      names = (parts_named (groups_from (child_of child)) more (rw next at l.invariant.names)).1;
    }
