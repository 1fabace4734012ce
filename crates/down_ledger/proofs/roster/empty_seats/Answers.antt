use Rattle.std.proofs.Common.{◌++◌, ◌∷◌, [], None, Option, List, ap, ◌∙◌}
use Rattle.std.proofs.lemmas.List.{replicate_more}
use Rattle.down_ledger.specs.declared.share.Share.{Share}
use Rattle.down_ledger.proofs.roster.empty_seats.Goals as goal

pub loop-place-preserved : goal.loop-place-preserved
loop-place-preserved c =
    c.in_ok-push.ensures.items ∙ ap (λ (l : List (Option Share)). l ++ None ∷ []) c.loop-place.invariant ∙ replicate_more c.loop-place._place None
