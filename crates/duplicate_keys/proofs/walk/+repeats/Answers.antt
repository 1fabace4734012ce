use Rattle.std.proofs.Common.{rules, ◌≡◌, ◌+◌, OnOk, List, [], ◌∷◌, ◌++◌, drop, refl, map, take, sym, ap, ◌∙◌, subst, arith}
use Rattle.std.proofs.lemmas.List.{drop_all, drop_more}
use Rattle.json.specs.Json.{object}
use Rattle.json.specs.Strict.{keys}
use Rattle.json.specs.declared.value.Value.{the_lemmas}
use Rattle.json.specs.Value.{items_view, members_view, value_view}
use Rattle.json.proofs.Trees.{view-Object}
use Rattle.duplicate_keys.specs.Inside.{below_all, paths_told}
use Rattle.duplicate_keys.specs.Repeats.{Path, cut, repeated, repeated_in_items, repeated_in_members, repeated_in_value}
use Rattle.duplicate_keys.specs.declared.path.Part.TheVariants.{Key, Index}
use Rattle.duplicate_keys.proofs.Ways.{one_more, in_object, none_left}
use Rattle.duplicate_keys.proofs.walk.+repeats.Goals as goal

pub push_in_items-loop-index-preserved : goal.push_in_items-loop-index-preserved
push_in_items-loop-index-preserved t c =
    let l = c.loop-index in
    let items = c.args.items.now in
    let x = c.index-items-index.result in
    let told = paths_told l.told in
    let rest = repeated_in_items (l.index + 1) (items_view (drop (l.index + 1) items)) in
    let here : drop l.index items ≡ x ∷ drop (l.index + 1) items = drop_more items l.index x (omega arith) ∙ ap (λ y. y ∷ drop (l.index + 1) items) (sym c.index-items-index.is) in
    let was = sym (ap (λ vs. take 100 (told ++ below_all l.above.items (repeated_in_items l.index (items_view vs)))) here) ∙ l.invariant.0 in (
      ap (λ parts. take 100 (paths_told c.push_below.new.told ++ below_all parts rest)) c.in-Ok.ensures.above
          ∙ one_more l.above.items (Index l.index) (repeated_in_value (value_view x)) rest told _ _ c.in-Ok.ensures.told was,
      c.in-Ok.ensures.above ∙ l.invariant.1,
    )

pub push_in_members-loop-member-preserved : goal.push_in_members-loop-member-preserved
push_in_members-loop-member-preserved t c =
    let l = c.loop-member in
    let members = c.args.members.now in
    let place = l.member-index in
    let x = c.member-item.result in
    let told = paths_told l.told in
    let rest = repeated_in_members (members_view (drop (place + 1) members)) in
    let here : drop place members ≡ x ∷ drop (place + 1) members = drop_more members place x (omega arith) ∙ ap (λ y. y ∷ drop (place + 1) members) (sym c.member-item.is) in
    let was = sym (ap (λ ms. take 100 (told ++ below_all l.above.items (repeated_in_members (members_view ms)))) here) ∙ l.invariant.0 in (
      ap (λ parts. take 100 (paths_told c.push_below.new.told ++ below_all parts rest)) c.in-Ok.ensures.above
          ∙ one_more l.above.items (Key x.0) (repeated_in_value (value_view x.1)) rest told _ _ c.in-Ok.ensures.told was,
      c.in-Ok.ensures.above ∙ l.invariant.1,
    )

pub push_in_value-returns-in-Ok-clause-told : goal.push_in_value-returns-in-Ok-clause-told
push_in_value-returns-in-Ok-clause-told t c =
    let members = c.in-Object.members.items in
    let above = c.args.above.now.items in
    let told = paths_told c.args.told.now in
    let view : value_view c.args.value.now ≡ object (members_view members) = ap value_view c.in-Object.is ∙ view-Object c.in-Object.members in
    let own : paths_told c.push_keys.new.told ≡ take 100 (told ++ below_all above (map cut (repeated (keys (members_view members))))) =
    c.in-Ok.ensures ∙ (λ i. take 100 (told ++ below_all (c.deref-in-Object-2.ensures.value i) (map cut (repeated (keys (members_view (c.deref-in-Object.ensures.value i))))))) in
    let whole : take 100 (paths_told c.push_keys.new.told ++ below_all above (repeated_in_members (members_view c.deref-in-Object-3.result.now))) ≡ take 100 (told ++ below_all above (repeated_in_value (value_view c.args.value.now))) =
    ap (λ ms. take 100 (paths_told c.push_keys.new.told ++ below_all above (repeated_in_members (members_view ms)))) c.deref-in-Object-3.ensures.value
    ∙ in_object above (members_view members) (value_view c.args.value.now) told _ own view in
    subst (λ (paths : List Path). OnOk c.push_in_members.result (paths_told c.push_in_members.new.told ≡ paths)) whole c.push_in_members.ensures.told

pub push_in_items-returns-clause-told : goal.push_in_items-returns-clause-told
push_in_items-returns-clause-told t c =
    let l = c.loop-index in
    none_left l.told _ _ (ap (λ vs. below_all l.above.items (repeated_in_items l.index (items_view vs))) (drop_all l.index c.args.items.now (omega arith))) l.invariant.0

pub push_in_members-returns-clause-told : goal.push_in_members-returns-clause-told
push_in_members-returns-clause-told t c =
    let l = c.loop-member in
    none_left l.told _ _ (ap (λ ms. below_all l.above.items (repeated_in_members (members_view ms))) (drop_all l.member-index c.args.members.now (omega arith))) l.invariant.0

pub push_in_value-returns-in_default : goal.push_in_value-returns-in_default
push_in_value-returns-in_default t c =
    let none : repeated_in_value (value_view c.args.value.now) ≡ [] = search (rules, the_lemmas, c.in_default.not-Array, c.in_default.not-Object) in record {
      told = none_left c.args.told.now [] _ refl (λ i. take 100 (paths_told c.args.told.now ++ below_all c.args.above.now.items (sym none i)));
      above = refl;
    }
