use Rattle.std.proofs.Common.{◌≡◌, ◌++◌, map, drop}
use Rattle.std.specs.List.{filter_map}
use Rattle.serde_json.specs.Find.{as_str}
use Rattle.serde_json.specs.View.{view}
use Rattle.playbook_schema.specs.Verdicts.{lent_texts}
use Rattle.playbook_schema.proofs.texts.texts_in.Given as goal

abbrev pub invariant-loop-element : goal.invariant-loop-element
invariant-loop-element l =
    lent_texts l.texts.items ++ filter_map as_str (map view (drop l.element-index l.element-items)) ≡ filter_map as_str (map view l.element-items)
