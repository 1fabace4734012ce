use Rattle.std.proofs.Common.{map}
use Rattle.std.specs.List.{flat_map}
use Rattle.serde_json.specs.View.{members_view}
use Rattle.text_syntax.specs.Shapes.{entries}
use Rattle.playbook_schema.specs.Breaches.{Broken}
use Rattle.playbook_schema.specs.KeyLists.{keys_of}
use Rattle.playbook_schema.specs.Places.{path_at}
use Rattle.playbook_schema.specs.Steps.{unknown_entry}
use Rattle.playbook_schema.proofs.AddLaws.{Leads}
use Rattle.playbook_schema.proofs.keys.check_keys.Given as goal

abbrev pub invariant-loop-key : goal.invariant-loop-key
invariant-loop-key l =
    Leads (path_at l.place) l.initial.faults l.faults (map Broken (flat_map (unknown_entry (keys_of l.keys)) (entries (members_view l.key-iterator))))
    (map Broken (flat_map (unknown_entry (keys_of l.keys)) (entries (members_view l.initial.key-iterator))))
