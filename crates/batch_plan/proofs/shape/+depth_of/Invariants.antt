use Rattle.batch_plan.proofs.shape.+depth_of.Given as goal

abbrev pub decreases-depth_of : goal.decreases-depth_of
decreases-depth_of l = l.group.index
