use Rattle.std.proofs.Common.{◌≡◌, [], List, ap, map, sym, ◌∙◌, rules}
use Rattle.std.specs.List.{flat_map}
use Rattle.std.specs.String.{string_bytes}
use Rattle.std.proofs.lemmas.List.{map-append}
use Rattle.serde_json.specs.View.{view, members_view}
use Rattle.text_syntax.specs.Shapes.{Entry, entries}
use Rattle.playbook_schema.specs.Breaches.{Broken}
use Rattle.playbook_schema.specs.KeyLists.{keys_of}
use Rattle.playbook_schema.specs.Places.{path_at}
use Rattle.playbook_schema.specs.Steps.{unknown_entry}
use Rattle.playbook_schema.specs.Told.{Adds}
use Rattle.playbook_schema.proofs.AddLaws.{adds_none, adds_same, leads_end, leads_on, leads_start}
use Rattle.playbook_schema.proofs.keys.check_keys.Goals as goal

pub returns-in_default : goal.returns-in_default
returns-in_default c =
    adds_none (path_at c.args.place) c.args.faults.now _ (ap (λ members. map Broken (flat_map (unknown_entry (keys_of c.args.keys)) (entries members))) (sym c.in_default.ensures.entries))

pub loop-key-init : goal.loop-key-init
loop-key-init c = leads_start (path_at c.args.place) c.args.faults.now _

pub loop-key-preserved : goal.loop-key-preserved
loop-key-preserved c =
    let l = c.loop-key in
    let at = path_at c.args.place in
    let keys = keys_of c.args.keys in
    let entry : Entry = record { name = string_bytes c.in-Some-2.key.now; value = view c.in-Some-2._value.now } in
    let own : Adds at l.faults c.check.new.self (map Broken (unknown_entry keys entry)) = rw (c.have.ensures, c.as_str-key.ensures.value) at c.in_ok-check.ensures in
    leads_on at _ _ _ _ (rw c.in-Some-2.ensures.steps at l.invariant) c.check.new.self (map Broken (unknown_entry keys entry)) _
    (map-append Broken (unknown_entry keys entry) (flat_map (unknown_entry keys) (entries (members_view c.next.new.self)))) own

pub returns : goal.returns
returns c =
    let l = c.loop-key in
    let at = path_at c.args.place in
    let keys = keys_of c.args.keys in
    let left : l.key-iterator ≡ [] = c.in-None.ensures.steps.0 in
    let start : c.into_iter-key-iterator.result ≡ c.in-Some.object.now.entries = search rules in
    adds_same at _ _ _ _
    (leads_end at _ _ _ _ l.invariant (ap (λ items. map Broken (flat_map (unknown_entry keys) (entries (members_view items)))) left))
    (ap (λ members. map Broken (flat_map (unknown_entry keys) (entries members))) (ap members_view start ∙ c.in-Some.ensures.entries))
