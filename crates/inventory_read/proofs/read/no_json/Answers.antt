use Rattle.std.proofs.Common.{[], ◌∷◌, ap, ◌∙◌}
use Rattle.inventory_read.specs.Rules.{Breach, NotJson}
use Rattle.text_syntax.specs.Telling.{Telling, with_breaches}
use Rattle.inventory_read.proofs.Readings.{are_told}
use Rattle.inventory_read.proofs.read.no_json.Goals as goal

pub returns : goal.returns
returns c =
    are_told c.args.most (NotJson ∷ []) c.add.new.self c.into_told.result
    (c.in_ok-add.ensures ∙ ap (λ (t : Telling Breach). with_breaches t (NotJson ∷ [])) c.new-faults.ensures) c.into_told.ensures.faults c.into_told.ensures.more
