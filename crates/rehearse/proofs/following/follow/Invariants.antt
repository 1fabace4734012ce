use Rattle.std.proofs.Common.{ℕ}
use Rattle.rehearse.specs.CourseSteps.{HasComeBehind, setting_of, waiting_in}
use Rattle.rehearse.proofs.following.follow.Given as goal

abbrev pub invariant-loop-boundaries : goal.invariant-loop-boundaries
invariant-loop-boundaries l = HasComeBehind (setting_of l.setting) l.initial.standing.statuses.items l.boundaries.items l.standing

abbrev pub decreases-loop-boundaries : goal.decreases-loop-boundaries
decreases-loop-boundaries l = waiting_in l.standing.statuses.items
