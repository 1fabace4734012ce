-- What is written of a survey is what is told of its play.
use Rattle.std.proofs.Common.{◌≡◌, ℕ, ◌+◌, ◌≤◌, ◌<◌, ◌++◌, ◌∷◌, [], List, Option, flat_map, take, length, get_or, length-append, All, sym, ap, ◌∙◌, subst, arith, inl, inr, ◌⊎◌}
use Rattle.std.proofs.lemmas.Bool.{cases_lt}
use Rattle.std.proofs.lemmas.List.{get_or-take, get_or_append_left, get_or_default, get_or_push, length-take-le}
use Rattle.domains.specs.FleetViews.{FleetView}
use Rattle.fleet_states.specs.Starts.{start_statuses}
use Rattle.fleet_states.proofs.StartLemmas.{length-start_statuses}
use Rattle.fleet_states.proofs.StatusLemmas.{length-changed}
use Rattle.fleet_states.specs.declared.status.Status.TheVariants.{Held}
use Rattle.play_model.specs.declared.play.Play.{Play}
use Rattle.play_forecast.specs.PlayPlans.{aside_at_start, first_statuses, targets}
use Rattle.play_forecast.specs.declared.boundary.Boundary.{Boundary}
use Rattle.domains.specs.Ids.{group_numbers, host_numbers}
use Rattle.occupancy_table.specs.declared.color_mode.ColorMode.{ColorMode}
use Rattle.occupancy_table.specs.Columns.{counts_of}
use Rattle.occupancy_table.specs.TableText.{GridView, table_text}
use Rattle.batch_plan.specs.Counts.{limited_groups}
use Rattle.plan_occupancy.specs.Inside.{AreSurveysOf, IsSurveyOf, held_views, written}
use Rattle.plan_occupancy.specs.Surveys.{HeldView, Outlook, course_outlook, down_hosts, down_line, grid_view, held_line, start_of, survey_text}
use Rattle.plan_occupancy.specs.declared.occupancy_report.OccupancyReport.{OccupancyReport}
use Rattle.rehearse.specs.CourseSteps.{course_of}
use Rattle.rehearse.specs.declared.course.PlayCourse.{PlayCourse}

pub written_is : (paint : ColorMode) (fleet : FleetView) (outlook : Outlook) (survey : OccupancyReport) → IsSurveyOf fleet outlook survey → written paint fleet survey ≡ survey_text paint fleet outlook
written_is paint fleet outlook survey is =
    let rest = down_line fleet (host_numbers survey.down.items) ++ flat_map (held_line fleet) (held_views survey.held.items) in
    let marked : Option ℕ → GridView = λ m. record { fleet = fleet; mark = m; groups = group_numbers survey.table.groups.items; counts = counts_of survey.table; paint = paint } in
    let grouped : List ℕ → GridView = λ g. record { fleet = fleet; mark = outlook.mark; groups = g; counts = counts_of survey.table; paint = paint } in
    let counted : List (List ℕ) → GridView = λ n. record { fleet = fleet; mark = outlook.mark; groups = limited_groups fleet; counts = n; paint = paint } in
    let grid = ap marked is.mark ∙ ap grouped is.table.groups ∙ ap counted is.table.counts in
    ap (λ (g : GridView). table_text g ++ rest) grid
    ∙ ap (λ (hosts : List ℕ). table_text (grid_view paint fleet outlook) ++ (down_line fleet hosts ++ flat_map (held_line fleet) (held_views survey.held.items))) is.down
    ∙ ap (λ (held : List HeldView). table_text (grid_view paint fleet outlook) ++ (down_line fleet (down_hosts fleet outlook.start) ++ flat_map (held_line fleet) held)) is.held

pub start_long : (count : ℕ) (boundaries : List Boundary) → 1 ≤ length boundaries → All (λ (boundary : Boundary). length boundary.statuses.items ≡ count) boundaries
    → length (start_of boundaries) ≡ count
start_long count [] some all = absurd (omega (arith, some))
start_long count (boundary ∷ rest) some all = all 0 boundary (omega arith)

pub first_long : (fleet : FleetView) (play : Play) → length (first_statuses fleet play) ≡ length fleet.hosts
first_long fleet play = length-changed (λ _. Held) (aside_at_start fleet play) (start_statuses fleet (targets fleet play)) ∙ length-start_statuses fleet (targets fleet play)

-- one survey more
pub surveys_more : (fleet : FleetView) (courses : List PlayCourse) (i : ℕ) (course : PlayCourse) (surveys : List OccupancyReport) (survey : OccupancyReport) → AreSurveysOf fleet (take i courses) surveys
    → i < length courses → course ≡ get_or courses i course → IsSurveyOf fleet (course_outlook (course_of course)) survey → AreSurveysOf fleet (take (i + 1) courses) (surveys ++ survey ∷ [])
surveys_more fleet courses i course surveys survey so_far within is told = record { all = all; each = each }
  where
    before : length (take i courses) ≡ i
    before = length-take-le i courses (omega (arith, within))

    many : length surveys ≡ i
    many = sym so_far.all ∙ before

    after : length (take (i + 1) courses) ≡ i + 1
    after = length-take-le (i + 1) courses (omega (arith, within))

    all : length (take (i + 1) courses) ≡ length (surveys ++ survey ∷ [])
    all = omega (arith, after, many, length-append surveys (survey ∷ []))

    Told : PlayCourse → OccupancyReport → Type 0
    Told c s = IsSurveyOf fleet (course_outlook (course_of c)) s

    each : (place : ℕ) (c : PlayCourse) (s : OccupancyReport) → place < length (take (i + 1) courses) → c ≡ get_or (take (i + 1) courses) place c → s ≡ get_or (surveys ++ survey ∷ []) place s
        → IsSurveyOf fleet (course_outlook (course_of c)) s
    each place c s l c_is s_is = by_case (cases_lt place i)
      where
        by_case : (place < i) ⊎ (i ≤ place) → IsSurveyOf fleet (course_outlook (course_of c)) s
        by_case (inl less) =
            so_far.each place c s (omega (arith, less, before)) (c_is ∙ get_or-take (i + 1) courses place c (omega (arith, less)) ∙ sym (get_or-take i courses place c less))
            (s_is ∙ get_or_append_left surveys (survey ∷ []) s place (omega (arith, less, many)))
        by_case (inr past) =
            let last : place ≡ i = omega (arith, past, l, after) in
            let same_course : course ≡ c = is ∙ get_or_default courses i course c within ∙ ap (λ n. get_or courses n c) (sym last)
            ∙ sym (get_or-take (i + 1) courses place c (omega (arith, last))) ∙ sym c_is in
            let same_survey : survey ≡ s = sym (s_is ∙ ap (λ n. get_or (surveys ++ survey ∷ []) n s) last ∙ get_or_push surveys survey s i many) in
            subst (λ (c' : PlayCourse). IsSurveyOf fleet (course_outlook (course_of c')) s) same_course (subst (IsSurveyOf fleet (course_outlook (course_of course))) same_survey told)
