use Rattle.std.proofs.Common.{◌≡◌, map, drop}
use Rattle.std.specs.List.{list_all}
use Rattle.serde_json.specs.View.{view}
use Rattle.text_syntax.specs.Shapes.{is_text}
use Rattle.playbook_schema.proofs.texts.are_texts.Given as goal

abbrev pub invariant-loop-value : goal.invariant-loop-value
invariant-loop-value l =
    list_all is_text (map view l.list) ≡ list_all is_text (map view (drop l.value-index l.list))
