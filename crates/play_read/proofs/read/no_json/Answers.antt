use Rattle.std.proofs.Common.{[], ◌∷◌, ap, ◌∙◌}
use Rattle.text_syntax.specs.Telling.{nothing_told, with_breaches}
use Rattle.playbook_schema.specs.Breaches.{NotJson}
use Rattle.playbook_schema.specs.Checks.{rule}
use Rattle.playbook_schema.proofs.AddLaws.{T}
use Rattle.play_read.proofs.Reports.{are_told, told_one}
use Rattle.play_read.proofs.read.no_json.Goals as goal

pub returns : goal.returns
returns c =
    let adds = c.in_ok-add.ensures in
    are_told c.args.most (rule NotJson ∷ []) c.add.new.self c.into_told.result
    (adds.is ∙ ap (λ (t : T). with_breaches t adds.told) c.new-faults.ensures ∙ ap (with_breaches (nothing_told c.args.most)) (told_one NotJson adds.told adds.tells)) c.into_told.ensures.faults c.into_told.ensures.more
