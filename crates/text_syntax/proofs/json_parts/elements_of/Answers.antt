use Rattle.std.proofs.Common.{Some, map, ap, ◌∙◌}
use Rattle.serde_json.specs.View.{view}
use Rattle.text_syntax.proofs.ListLaws.{elements_found}
use Rattle.text_syntax.proofs.json_parts.elements_of.Goals as goal

pub returns-in-Some : goal.returns-in-Some
returns-in-Some c =
    ap (λ found. Some (map view found)) c.as_slice.ensures.value ∙ elements_found (map view c.in-Some.elements.now.items) _ c.in-Some.ensures
