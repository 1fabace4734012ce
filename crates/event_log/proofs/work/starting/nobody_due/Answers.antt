use Rattle.std.proofs.Common.{◌++◌, ◌∷◌, [], List, ap, ◌∙◌}
use Rattle.std.proofs.lemmas.List.{replicate_more}
use Rattle.event_log.specs.declared.turn.Turn.{Turn}
use Rattle.event_log.specs.declared.turn.Turn.TheVariants.{Over}
use Rattle.event_log.proofs.work.starting.nobody_due.Goals as goal

pub loop-host-preserved : goal.loop-host-preserved
loop-host-preserved c =
    c.in_ok-push.ensures.items ∙ ap (λ (l : List Turn). l ++ Over ∷ []) c.loop-host.invariant ∙ replicate_more c.loop-host._host Over
