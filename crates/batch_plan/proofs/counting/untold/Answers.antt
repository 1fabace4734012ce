use Rattle.std.proofs.Common.{List, ◌++◌, ◌∷◌, [], None, Option, ap, ◌∙◌}
use Rattle.std.proofs.lemmas.List.{replicate_more}
use Rattle.batch_plan.specs.declared.needs.Need.{Need}
use Rattle.batch_plan.proofs.counting.untold.Goals as goal

pub loop-group-preserved : goal.loop-group-preserved
loop-group-preserved c =
    c.in_ok-push.ensures.items ∙ ap (λ (l : List (Option Need)). l ++ None ∷ []) c.loop-group.invariant ∙ replicate_more c.loop-group._group None
