-- What goes out is the plan or the course with its groups, and what refuses it is true.
use Rattle.std.proofs.Common.{◌≡◌, ℕ, ◌<◌, Bool, Option, None, List, ◌∷◌, ◌++◌, drop, drop-cons, get_or, length, map, refl, sym, ap, ◌∙◌}
use Rattle.std.specs.Prelude.{nat_lt}
use Rattle.std.specs.Io.KnownBytes.{Keeps}
use Rattle.std.specs.List.{find}
use Rattle.bounded_io.specs.Sending.{SendsFirst}
use Rattle.text_syntax.specs.Patterns.{parts_of}
use Rattle.domains.specs.FleetViews.{FleetView}
use Rattle.domains.specs.Ids.{host_numbers}
use Rattle.domains.specs.Patterns.{names_nothing}
use Rattle.play_model.specs.declared.play.Play.{Play}
use Rattle.play_forecast.specs.PlayPlans.{first_statuses}
use Rattle.recap.specs.PlanText.{plan_text}
use Rattle.plan_command.specs.Ends.{end_of}
use Rattle.plan_command.specs.PlanTexts.{ArePlaysIn, IsFirstPlan, IsFleetIn, IsPlaybookFault}
use Rattle.plan_command.specs.declared.fault.PlanFault.{PlanFault}
use Rattle.plan_command.specs.declared.fault.PlanFault.TheVariants.{Read, Fleet, Playbook, Pattern, Write}
use Rattle.plan_command.proofs.TextLemmas.{refused_is_true}
use Rattle.rehearse.proofs.CourseTextLemmas as courses
use Rattle.rehearse.proofs.CourseTextLemmas.{ends_somehow, some_course}
use Rattle.rehearse.specs.CourseSteps.{course_of}
use Rattle.rehearse.specs.CourseTexts.{AreCoursesBy, failing_by}
use Rattle.rehearse.specs.declared.course.PlayCourse.{PlayCourse}
use Rattle.occupancy_table.specs.declared.color_mode.ColorMode.{ColorMode}
use Rattle.plan_occupancy.specs.CourseSurveys.{BreaksSurveyedCourse, IsTrueCourseFaultBeside, surveyed_text}
use Rattle.plan_occupancy.specs.Inside.{IsSurveyedPlay, planned_text}
use Rattle.plan_occupancy.specs.PlanSurveys.{IsSurveyedPlan, IsTrueFaultBeside}
use Rattle.plan_occupancy.specs.Surveys.{plan_outlook}
use Rattle.plan_occupancy.specs.declared.plan.SurveyedPlan.{SurveyedPlan}
use Rattle.plan_occupancy.proofs.SurveyLemmas.{written_is}

pub refused_beside : (inventory playbook : List ℕ) (paint : ColorMode) (old new : Option (List ℕ)) (fleet : FleetView) → IsFleetIn inventory fleet → (fault : PlanFault) → Keeps old new
    → IsPlaybookFault fleet playbook fault → IsTrueFaultBeside inventory playbook paint old new fault
refused_beside inventory playbook paint old new fleet built (Playbook fault) keeps refused = refused_is_true inventory playbook old new fleet built (Playbook fault) keeps refused
refused_beside inventory playbook paint old new fleet built (Pattern fault) keeps refused = refused_is_true inventory playbook old new fleet built (Pattern fault) keeps refused
refused_beside inventory playbook paint old new fleet built (Read fault) keeps refused = absurd refused
refused_beside inventory playbook paint old new fleet built (Fleet fault) keeps refused = absurd refused
refused_beside inventory playbook paint old new fleet built (Write fault) keeps refused = absurd refused

pub refused_course_beside : (inventory playbook failing : List ℕ) (paint : ColorMode) (old new : Option (List ℕ)) (fleet : FleetView) → IsFleetIn inventory fleet → (fault : PlanFault) → Keeps old new
    → IsPlaybookFault fleet playbook fault → IsTrueCourseFaultBeside inventory playbook failing paint old new fault
refused_course_beside inventory playbook failing paint old new fleet built (Playbook fault) keeps refused =
    courses.refused_is_true inventory playbook failing old new fleet built (Playbook fault) keeps refused
refused_course_beside inventory playbook failing paint old new fleet built (Pattern fault) keeps refused =
    courses.refused_is_true inventory playbook failing old new fleet built (Pattern fault) keeps refused
refused_course_beside inventory playbook failing paint old new fleet built (Read fault) keeps refused = absurd refused
refused_course_beside inventory playbook failing paint old new fleet built (Fleet fault) keeps refused = absurd refused
refused_course_beside inventory playbook failing paint old new fleet built (Write fault) keeps refused = absurd refused

pub is_surveyed : (inventory playbook : List ℕ) (paint : ColorMode) (fleet : FleetView) (plays : List Play) (play : Play) (plan : SurveyedPlan) → IsFleetIn inventory fleet
    → ArePlaysIn fleet playbook plays → 0 < length plays → play ≡ get_or plays 0 play → IsSurveyedPlay fleet play plan
    → IsSurveyedPlan inventory playbook paint (planned_text paint fleet plan) (end_of plan.planned.answer (host_numbers plan.planned.held.items))
is_surveyed inventory playbook paint fleet plays play plan built says some is surveyed =
    let parts : plays ≡ play ∷ drop 1 plays = drop-cons plays 0 play some ∙ ap (λ (p : Play). p ∷ drop 1 plays) (sym is) in
    let held = host_numbers plan.planned.held.items in
    let first : IsFirstPlan fleet plays plan.planned.answer held = record { first = play; others = drop 1 plays; are = parts; known = says.known; plan = surveyed.plan_is } in
    record {
      fleet = fleet;
      answer = plan.planned.answer;
      held = held;
      plan = record { built = built; plan = record { plays = plays; reads = says.reads; plan = first } };
      text_is = ap (λ (l : List ℕ). plan_text fleet plan.planned.answer held ++ l)
          (written_is paint fleet (plan_outlook (first_statuses fleet play) plan.planned.answer held) plan.survey surveyed.survey_is);
      ends = refl;
    }

pub breaks_course : (inventory playbook failing : List ℕ) (paint : ColorMode) (old new : Option (List ℕ)) (fleet : FleetView) (plays : List Play) (courses : List PlayCourse) (several : Bool) (count : ℕ)
    → IsFleetIn inventory fleet → ArePlaysIn fleet playbook plays → find (names_nothing fleet) (parts_of failing) ≡ None
    → AreCoursesBy fleet (failing_by fleet failing) plays (map course_of courses) → several ≡ nat_lt 1 (length plays)
    → SendsFirst old new (surveyed_text paint fleet several (map course_of courses)) count → BreaksSurveyedCourse inventory playbook failing paint old new count
breaks_course inventory playbook failing paint old new fleet plays courses several count built says known are is written =
    let ends = ends_somehow courses (some_course fleet (failing_by fleet failing) plays courses are) in
    record {
      text = surveyed_text paint fleet several (map course_of courses);
      end = ends.0;
      is = record {
        fleet = fleet;
        plays = plays;
        read = record { built = built; says = says };
        known = known;
        courses = map course_of courses;
        courses_are = are;
        text_is = ap (λ b. surveyed_text paint fleet b (map course_of courses)) is;
        ends = ends.1;
      };
      written = written;
    }
