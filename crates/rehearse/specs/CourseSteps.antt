-- What the steps of a course have to give.
use Rattle.std.specs.Prelude.{◌≡◌, ℕ, ◌≤◌, ◌+◌, ◌*◌, Bool, true, false, Option, Some, None, List, [], ◌∷◌, ◌++◌, length, map}
use Rattle.std.specs.List.{range_with_len, sum_by}
use Rattle.domains.specs.FleetViews.{FleetView}
use Rattle.fleet_states.specs.Batches.{Fails, fails_in}
use Rattle.fleet_states.specs.Statuses.{waiting_count}
use Rattle.fleet_states.specs.declared.status.Status.{Status}
use Rattle.play_model.specs.declared.play.Play.{Play}
use Rattle.play_forecast.specs.Courses as model
use Rattle.play_forecast.specs.Courses.{IsBoundary, IsCourse, end_behind, end_here, ended_by, led_to, statuses_behind}
use Rattle.play_forecast.specs.Files.{AreLaterCourses, Course, GoesOn, last_statuses}
use Rattle.play_forecast.specs.declared.boundary.Boundary.{Boundary}
use Rattle.play_forecast.specs.declared.end.End.{End}
use Rattle.play_forecast.specs.declared.end.End.TheVariants as ending
use Rattle.rehearse.specs.CourseTexts.{batches_opened, play_by, setting_by}
use Rattle.rehearse.specs.declared.course.PlayCourse.{PlayCourse}
use Rattle.rehearse.specs.declared.following.Setting.{Setting}
use Rattle.rehearse.specs.declared.following.Standing.{Standing}
use Rattle.rehearse.specs.declared.following.Turn.{Turn}
use Rattle.rehearse.specs.declared.following.Turn.TheVariants.{Behind, Ended}

-- the course that was found
abbrev pub course_of : PlayCourse → Course
course_of course = record { boundaries = course.boundaries.items; end = course.end }

-- what stays the same throughout a play
abbrev pub setting_of : Setting → model.Setting
setting_of setting = setting_by setting.fleet.now (fails_in setting.failing.now) setting.play.now

-- a play may follow one that ends so
abbrev pub is_finished : End → Bool
is_finished ending.Finished = true
is_finished ending.Held = false
is_finished (ending.Blocked group) = false
is_finished (ending.TooManyFailed step failed size) = false
is_finished ending.AllFailed = false

-- how many hosts wait
abbrev pub waiting_in : List Status → ℕ
waiting_in statuses = waiting_count statuses (range_with_len 0 (length statuses))

-- the play ends at the boundary, or its batch is behind it
abbrev pub IsTurnAt : model.Setting → Option End → Boundary → Turn → Type 0
IsTurnAt setting before boundary (Ended end) = end_here before boundary ≡ Some end
IsTurnAt setting before boundary (Behind standing) =
    (end_here before boundary ≡ None) × (standing.statuses.items ≡ statuses_behind setting boundary) × (standing.before ≡ end_behind setting boundary)

-- a play that stood so came to its next boundary, and ended there or passed its batch
pub record HasMoved (setting : model.Setting) (old new : List Boundary) (standing : Standing) (turn : Turn) : Type 0 where
  pub boundary : Boundary
  pub grown : new ≡ old ++ boundary ∷ []
  pub is : IsBoundary setting (length old) standing.statuses.items boundary
  pub turn_is : IsTurnAt setting standing.before boundary turn

-- from these statuses on a play came behind these boundaries, and stands so; of the hosts that waited one at least has a batch behind it for each boundary
pub record HasComeBehind (setting : model.Setting) (start : List Status) (boundaries : List Boundary) (standing : Standing) : Type 0 where
  pub course : IsCourse setting start boundaries None
  pub statuses_are : standing.statuses.items ≡ led_to setting start boundaries
  pub before_is : standing.before ≡ ended_by setting None boundaries
  pub all : length standing.statuses.items ≡ length setting.fleet.hosts
  pub fewer : length boundaries + waiting_in standing.statuses.items ≤ waiting_in start

-- a whole course of a play from these statuses on
pub record IsWholeCourse (setting : model.Setting) (start : List Status) (course : PlayCourse) : Type 0 where
  pub is : IsCourse setting start course.boundaries.items (Some course.end)
  pub all : length (last_statuses [] course.boundaries.items) ≡ length setting.fleet.hosts
  pub few : batches_opened (course_of course) ≤ length setting.fleet.hosts

-- behind those that there were stand the course of a play and those of the plays after it
pub record HasFollowed (fleet : FleetView) (fails : Fails) (plays : List Play) (before : PlayCourse) (old new : List PlayCourse) : Type 0 where
  pub more : List PlayCourse
  pub grown : new ≡ old ++ before ∷ more
  pub resume : GoesOn before.end (map course_of more) (AreLaterCourses (map (play_by fleet fails) plays) (last_statuses [] before.boundaries.items) (map course_of more))
  pub few : sum_by batches_opened (map course_of more) ≤ length plays * length fleet.hosts
