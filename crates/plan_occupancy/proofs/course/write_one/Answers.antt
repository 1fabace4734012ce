use Rattle.std.proofs.Common.{ℕ, List, refl, subst}
use Rattle.bounded_io.specs.Writing.{Writes}
use Rattle.bounded_io.proofs.WritingLemmas.{writes_two}
use Rattle.rehearse.specs.CourseSteps.{course_of}
use Rattle.rehearse.specs.CourseTexts.{course_lines, numbered}
use Rattle.plan_occupancy.specs.Surveys.{course_outlook, survey_text}
use Rattle.plan_occupancy.proofs.SurveyLemmas.{written_is}
use Rattle.plan_occupancy.proofs.course.write_one.Goals as goal

pub returns : goal.returns
returns g c =
    let fleet = c.args.fleet.now in
    let course = course_of c.args.course.now in
    let told = subst (λ (l : List ℕ). Writes g.W.Write.contents c.write_course.new.text c.write_survey.new.text l)
    (written_is c.args.manner.paint fleet (course_outlook course) c.args.survey.now c.requires.told) c.write_survey.ensures in
    writes_two _ c.args.text.now c.write_course.new.text c.write_survey.new.text (numbered c.args.manner.several c.args.number (course_lines fleet course))
    (survey_text c.args.manner.paint fleet (course_outlook course)) _ c.write_course.ensures told refl
