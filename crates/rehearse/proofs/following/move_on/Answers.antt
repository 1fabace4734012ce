use Rattle.std.proofs.Common.{List, length, subst}
use Rattle.play_forecast.specs.Courses.{IsBoundary}
use Rattle.play_forecast.specs.declared.boundary.Boundary.{Boundary}
use Rattle.rehearse.specs.CourseSteps.{setting_of}
use Rattle.rehearse.proofs.following.move_on.Goals as goal

pub returns : goal.returns
returns c = record {
  boundary = c.in_ok-boundary.boundary;
  grown = c.in_ok-push.ensures.items;
  is = subst (λ (l : List Boundary). IsBoundary (setting_of c.args.setting.now) (length l) c.args.standing.statuses.items c.in_ok-boundary.boundary) c.as_slice.ensures.value c.in_ok-boundary.ensures;
  turn_is = c.in_ok-turn.ensures;
}
