use Rattle.std.proofs.Common.{◌+◌, List, sym, subst, take}
use Rattle.plan_occupancy.specs.Inside.{AreSurveysOf}
use Rattle.plan_occupancy.specs.declared.occupancy_report.OccupancyReport.{OccupancyReport}
use Rattle.plan_occupancy.proofs.SurveyLemmas.{surveys_more}
use Rattle.plan_occupancy.proofs.course.survey_all.Goals as goal

pub loop-course-preserved : goal.loop-course-preserved
loop-course-preserved c =
    let fleet = c.args.fleet.now in
    let courses = c.args.courses.now in
    let i = c.loop-course.course-index in
    let more = surveys_more fleet courses i c.course-item.result c.loop-course.surveys.items c.in_ok-survey_course.field-0 c.loop-course.invariant c.loop-course-test.true c.course-item.is
    c.in_ok-survey_course.ensures in
    subst (λ (l : List OccupancyReport). AreSurveysOf fleet (take (i + 1) courses) l) (sym c.in_ok-push.ensures.items) more
