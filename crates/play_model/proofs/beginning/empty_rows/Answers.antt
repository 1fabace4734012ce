use Rattle.std.proofs.Common.{◌++◌, ◌∷◌, [], List, Option, None, ap, ◌∙◌}
use Rattle.std.proofs.lemmas.List.{replicate_more}
use Rattle.play_model.specs.declared.registered.Registered.{Registered}
use Rattle.play_model.proofs.beginning.empty_rows.Goals as goal

pub loop-number-preserved : goal.loop-number-preserved
loop-number-preserved c =
    c.in_ok-push.ensures.items ∙ ap (λ (l : List (Option Registered)). l ++ None ∷ []) c.loop-number.invariant ∙ replicate_more c.loop-number._number None
