use Rattle.std.proofs.Common.{◌++◌, ◌∙◌, ap, codes, flat_map, string_bytes, sym}
use Rattle.std.proofs.lemmas.List.Folds.{flat_map-map}
use Rattle.std.proofs.lemmas.Result.{IfOk-weaker}
use Rattle.command_line.specs.Operands.{Word}
use Rattle.command_line.specs.Wishes.{joined}
use Rattle.command_line.proofs.option_match.joined.Goals as goal

pub returns : goal.returns
returns c =
    IfOk-weaker c.join.result _ _
    (λ text is. is ∙ ap (λ l. flat_map (λ value. string_bytes value ++ codes ",") l) c.as_slice.ensures.value
    ∙ sym (flat_map-map (λ (word : Word). word ++ codes ",") string_bytes c.in_ok-values.values.items) ∙ ap joined c.in_ok-values.ensures)
    c.join.ensures
