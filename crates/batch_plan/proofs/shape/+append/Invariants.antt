use Rattle.batch_plan.proofs.shape.+append.Given as goal

abbrev pub decreases-append : goal.decreases-append
decreases-append g l = l.depth
