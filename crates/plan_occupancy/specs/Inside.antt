-- What the steps of a survey have to give.
use Rattle.std.specs.Prelude.{◌≡◌, ◌<◌, ◌≤◌, ℕ, option_map, List, ◌++◌, All, flat_map, length, map, slice_index_or}
use Rattle.domains.specs.FleetViews.{FleetView}
use Rattle.domains.specs.Ids.{group_numbers, host_numbers}
use Rattle.occupancy_table.specs.declared.color_mode.ColorMode.{ColorMode}
use Rattle.occupancy_table.specs.Columns.{IsTableOf, counts_of}
use Rattle.occupancy_table.specs.TableText.{GridView, table_text}
use Rattle.plan_occupancy.specs.Surveys.{HeldView, Outlook, columns_of, course_outlook, down_hosts, down_line, held_line, held_of, plan_outlook}
use Rattle.play_model.specs.declared.play.Play.{Play}
use Rattle.play_forecast.specs.PlayPlans.{IsPlanOf, first_statuses}
use Rattle.recap.specs.PlanText.{plan_text}
use Rattle.rehearse.specs.CourseSteps.{course_of}
use Rattle.rehearse.specs.declared.course.PlayCourse.{PlayCourse}
use Rattle.plan_occupancy.specs.declared.plan.SurveyedPlan.{SurveyedPlan}
use Rattle.plan_occupancy.specs.declared.held.HeldHost.{HeldHost}
use Rattle.plan_occupancy.specs.declared.occupancy_report.OccupancyReport.{OccupancyReport}

abbrev pub held_view : HeldHost → HeldView
held_view held = record { host = held.host.index; group = option_map (λ group. group.index) held.group }

abbrev pub held_views : List HeldHost → List HeldView
held_views held = map held_view held

-- the table of a survey, painted so
abbrev pub grid_of_survey : ColorMode → FleetView → OccupancyReport → GridView
grid_of_survey paint fleet survey = record {
  fleet = fleet;
  mark = option_map (λ group. group.index) survey.mark;
  groups = group_numbers survey.table.groups.items;
  counts = counts_of survey.table;
  paint = paint;
}

-- what is written of a survey
abbrev pub written : ColorMode → FleetView → OccupancyReport → List ℕ
written paint fleet survey =
    table_text (grid_of_survey paint fleet survey)
    ++ (down_line fleet (host_numbers survey.down.items) ++ flat_map (held_line fleet) (held_views survey.held.items))

-- the survey has what is told of a play
pub record IsSurveyOf (fleet : FleetView) (outlook : Outlook) (survey : OccupancyReport) : Type 0 where
  pub table : IsTableOf fleet (columns_of outlook) survey.table
  pub mark : option_map (λ group. group.index) survey.mark ≡ outlook.mark
  pub down : host_numbers survey.down.items ≡ down_hosts fleet outlook.start
  pub held : held_views survey.held.items ≡ flat_map (held_of fleet) outlook.asides

-- a course has a boundary, and each has a status a host
pub record IsWalked (fleet : FleetView) (course : PlayCourse) : Type 0 where
  pub some : 1 ≤ length course.boundaries.items
  pub all : All (λ boundary. length boundary.statuses.items ≡ length fleet.hosts) course.boundaries.items

-- a survey for each course
pub record AreSurveysOf (fleet : FleetView) (courses : List PlayCourse) (surveys : List OccupancyReport) : Type 0 where
  pub all : length courses ≡ length surveys
  pub each : (place : ℕ) (course : PlayCourse) (survey : OccupancyReport) → place < length courses → course ≡ slice_index_or courses place course
      → survey ≡ slice_index_or surveys place survey → IsSurveyOf fleet (course_outlook (course_of course)) survey

-- the plan of the play, with a survey of it
pub record IsSurveyedPlay (fleet : FleetView) (play : Play) (plan : SurveyedPlan) : Type 0 where
  pub plan_is : IsPlanOf fleet play plan.planned.answer (host_numbers plan.planned.held.items)
  pub survey_is : IsSurveyOf fleet (plan_outlook (first_statuses fleet play) plan.planned.answer (host_numbers plan.planned.held.items)) plan.survey

-- what is written of a plan
abbrev pub planned_text : ColorMode → FleetView → SurveyedPlan → List ℕ
planned_text paint fleet plan = plan_text fleet plan.planned.answer (host_numbers plan.planned.held.items) ++ written paint fleet plan.survey
