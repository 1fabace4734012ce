use Rattle.std.proofs.Common.{◌≡◌, ◌+◌, min, [], ◌∷◌, ◌++◌, Bor, List, ℕ, map, refl, sym, ap, ◌∙◌, arith, rules}
use Rattle.std.specs.String.{string_bytes}
use Rattle.std.proofs.lemmas.List.{append-nil, map-append}
use Rattle.serde_json.specs.Data.{no_members}
use Rattle.serde_json.specs.View.{view, members_view}
use Rattle.inventory_read.specs.Documents.{below_body, groups_among, with_below}
use Rattle.inventory_read.specs.Listings.{broken_from, most, outline_at, outline_of, texts}
use Rattle.inventory_read.specs.Paths.{text_path}
use Rattle.inventory_read.specs.Rules.{placed, broken_by_group}
use Rattle.text_syntax.specs.Telling.{with_breaches}
use Rattle.inventory_read.proofs.Checks.{pop_last}
use Rattle.inventory_read.proofs.Groups.{below_body-is, listed_more, listed_with_below}
use Rattle.inventory_read.proofs.Walks.{pass_below, found_with_below}
use Rattle.inventory_read.proofs.checking.+check_from.Goals as goal

pub returns-in_default-clause-found : goal.returns-in_default-clause-found
returns-in_default-clause-found t c =
    let way = texts c.args.names.now.items in
    let body = view c.args.group.body.now in
    let own : c.check_group.new.faults ≡ with_breaches c.args.faults.now (map (placed (text_path way)) (broken_by_group c.args.group.name.now body)) =
    rw c.as_slice.ensures.value at c.in_ok-check_group.ensures in
    found_with_below _ _ _ way c.args.group.name.now body [] own (sym (below_body-is body ∙ ap groups_among c.in_default.ensures.entries)) refl

pub returns-in_default-clause-listed : goal.returns-in_default-clause-listed
returns-in_default-clause-listed t c =
    listed_with_below c.args.groups.now.items c.push.new.self.items c.args.group
    (min (c.args.group.depth + 1) most) no_members _ c.in_ok-push.ensures.items (omega arith) refl (sym c.in_default.ensures.entries)
    (sym (append-nil (map outline_of c.push.new.self.items)))

pub loop-name-preserved : goal.loop-name-preserved
loop-name-preserved t c =
    let l = c.loop-name in
    let way = texts c.args.names.now.items in
    let child = string_bytes c.in-Some-2.name.now in
    let child_body = view c.in-Some-2.body.now in
    let steps = c.in-Some-2.ensures.steps in
    let more = groups_among (members_view c.next.new.self) in
    let pushed : c.push-in-loop-name.new.self.items ≡ c.args.names.now.items ++ c.as_str-name.result ∷ [] =
    c.in_ok-push-2.ensures.items ∙ ap (λ list. list ++ c.as_str-name.result ∷ []) l.invariant.back in
    let names : texts c.push-in-loop-name.new.self.items ≡ way ++ child ∷ [] =
    ap texts pushed ∙ map-append (λ (name : Bor (List ℕ)). name.now) c.args.names.now.items (c.as_str-name.result ∷ []) ∙ ap (λ name. way ++ name ∷ []) c.as_str-name.ensures.value in
    let own : c.check_from.new.faults ≡ with_breaches l.faults (broken_from (way ++ child ∷ []) child child_body) =
    rw (names, c.as_str-name.ensures.value) at c.in_ok-check_from.ensures.found in
    let listed : map outline_of c.check_from.new.groups.items ≡ map outline_of l.groups.items ++ map (outline_at c.saturating_add-depth.result) (with_below child child_body (below_body child_body)) =
    c.in_ok-check_from.ensures.listed
    ∙ ap (λ name. map outline_of l.groups.items ++ map (outline_at c.saturating_add-depth.result) (with_below name child_body (below_body child_body))) c.as_str-name.ensures.value in
    let nested = rw steps at l.invariant.nested in
    record {
      back = pop_last c.check_from.new.names.items c.args.names.now.items c.pop.new.self.items c.as_str-name.result c.check_from.new.names.len
          (c.in_ok-check_from.ensures.back ∙ pushed) (omega (arith, c.check_from.new.names.ok)) c.pop.ensures.rest;
      found = pass_below _ _ way child child_body more _ own (rw steps at l.invariant.found);
      listed = listed_more _ _ c.saturating_add-depth.result (with_below child child_body (below_body child_body)) more _ listed (rw steps at l.invariant.listed);
      nested = omega arith;
    }

pub returns-clause-found : goal.returns-clause-found
returns-clause-found t c =
    let way = texts c.args.names.now.items in
    let body = view c.args.group.body.now in
    let own : c.check_group.new.faults ≡ with_breaches c.args.faults.now (map (placed (text_path way)) (broken_by_group c.args.group.name.now body)) =
    rw c.as_slice.ensures.value at c.in_ok-check_group.ensures in
    let left : c.loop-name.name-iterator ≡ [] = c.in-None.ensures.steps.0 in
    let start : c.into_iter-name-iterator.result ≡ c.in-Some.children.now.entries = search rules in
    let below : groups_among (members_view c.into_iter-name-iterator.result) ≡ below_body body =
    ap (λ entries. groups_among (members_view entries)) start ∙ ap groups_among c.in-Some.ensures.entries ∙ sym (below_body-is body) in
    found_with_below _ _ _ way c.args.group.name.now body (groups_among (members_view c.into_iter-name-iterator.result)) own below (rw left at c.loop-name.invariant.found)

pub returns-clause-listed : goal.returns-clause-listed
returns-clause-listed t c =
    let left : c.loop-name.name-iterator ≡ [] = c.in-None.ensures.steps.0 in
    let start : c.into_iter-name-iterator.result ≡ c.in-Some.children.now.entries = search rules in
    let all = sym (append-nil (map outline_of c.loop-name.groups.items)) ∙ (rw left at c.loop-name.invariant.listed) in
    listed_with_below c.args.groups.now.items c.push.new.self.items c.args.group c.saturating_add-depth.result
    (members_view c.into_iter-name-iterator.result) _ c.in_ok-push.ensures.items (omega arith) c.saturating_add-depth.ensures
    (ap members_view start ∙ c.in-Some.ensures.entries) all
