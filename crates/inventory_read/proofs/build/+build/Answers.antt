use Rattle.std.proofs.Common.{◌≡◌, true, [], refl, sym, ap, ◌∙◌, arith, rules}
use Rattle.std.specs.String.{string_bytes}
use Rattle.serde_json.specs.View.{view, members_view}
use Rattle.group_tree.specs.Subtrees.{Subtree}
use Rattle.inventory_read.specs.Documents.{with_below, below_body, groups_among}
use Rattle.inventory_read.specs.Named.{are_named}
use Rattle.inventory_read.specs.Values.{inventory_from}
use Rattle.inventory_read.proofs.Groups.{below_body-is}
use Rattle.inventory_read.proofs.Builds.{reach, reach-with_child, reach-none, reach-own}
use Rattle.inventory_read.proofs.Named.{below_named, parts_named}
use Rattle.inventory_read.proofs.build.+build.Goals as goal

pub returns-in_default : goal.returns-in_default
returns-in_default g t c =
    let body = view c.args.body.now in
    let below : below_body body ≡ [] = below_body-is body ∙ ap groups_among c.in_default.ensures.entries in
    sym (reach-none c.in_ok-group.group) ∙ reach-own c.in_ok-group.group c.args.name.now body [] c.in_ok-group.ensures
    ∙ ap (λ list. inventory_from (with_below c.args.name.now body list)) (sym below)

pub loop-name-init : goal.loop-name-init
loop-name-init g t c =
    let body = view c.args.body.now in
    let first : c.into_iter-name-iterator.result ≡ c.in-Some.children.now.entries = search rules in
    let below : groups_among (members_view c.into_iter-name-iterator.result) ≡ below_body body =
    ap (λ entries. groups_among (members_view entries)) first ∙ ap groups_among c.in-Some.ensures.entries ∙ sym (below_body-is body) in
    let named : are_named (with_below c.args.name.now body (below_body body)) ≡ true = search rules in
    record {
      named = refl;
      built = refl;
      names = ap are_named below ∙ below_named c.args.name.now body (below_body body) named;
      nested = omega arith;
    }

pub loop-name-preserved : goal.loop-name-preserved
loop-name-preserved g t c =
    let l = c.loop-name in
    let body = view c.in-Some-2.body.now in
    let name = string_bytes c.in-Some-2.name.now in
    let listed = with_below name body (below_body body) in
    let built = c.in_ok-build.ensures ∙ ap (λ name. inventory_from (with_below name body (below_body body))) c.as_str.ensures.value in
    let steps = c.in-Some-2.ensures.steps in
    let nested = rw steps at l.invariant.nested in
    let more = groups_among (members_view c.next.new.self) in
    let names = parts_named listed more (rw steps at l.invariant.names) in
    record {
      named = ap (λ (group : Subtree). group.name) c.in_ok-add_child.ensures.ok ∙ l.invariant.named;
      built =
          reach-with_child l.group c.in_ok-build.field-0 c.add_child.new.self listed more c.in_ok-add_child.ensures.ok built ∙ (rw steps at l.invariant.built);
      names = names.1;
      nested = omega arith;
    }

pub returns : goal.returns
returns g t c =
    let l = c.loop-name in
    let body = view c.args.body.now in
    let left : l.name-iterator ≡ [] = c.in-None.ensures.steps.0 in
    let first : c.into_iter-name-iterator.result ≡ c.in-Some.children.now.entries = search rules in
    let below : groups_among (members_view c.into_iter-name-iterator.result) ≡ below_body body =
    ap (λ entries. groups_among (members_view entries)) first ∙ ap groups_among c.in-Some.ensures.entries ∙ sym (below_body-is body) in
    sym (reach-none l.group) ∙ (rw left at l.invariant.built) ∙ ap (reach c.in_ok-group.group) below ∙ reach-own c.in_ok-group.group c.args.name.now body (below_body body) c.in_ok-group.ensures
