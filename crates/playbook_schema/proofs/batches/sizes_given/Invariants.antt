use Rattle.std.proofs.Common.{◌≡◌, ◌++◌, map, drop}
use Rattle.std.specs.List.{filter_map}
use Rattle.serde_json.specs.View.{view}
use Rattle.playbook_schema.specs.Settings.{size_of}
use Rattle.playbook_schema.proofs.batches.sizes_given.Given as goal

abbrev pub invariant-loop-entry : goal.invariant-loop-entry
invariant-loop-entry l =
    l.sizes.items ++ filter_map size_of (map view (drop l.entry-index l.entry-items)) ≡ filter_map size_of (map view l.entry-items)
