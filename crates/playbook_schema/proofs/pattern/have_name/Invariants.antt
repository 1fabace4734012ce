use Rattle.std.proofs.Common.{◌≡◌, map, drop}
use Rattle.std.specs.List.{list_any}
use Rattle.serde_json.specs.View.{view}
use Rattle.playbook_schema.specs.Settings.{has_name}
use Rattle.playbook_schema.proofs.pattern.have_name.Given as goal

abbrev pub invariant-loop-pattern : goal.invariant-loop-pattern
invariant-loop-pattern l =
    list_any has_name (map view l.patterns) ≡ list_any has_name (map view (drop l.pattern-index l.patterns))
