use Rattle.std.proofs.Common.{ℕ, List}
use Rattle.bounded_io.proofs.WritingLemmas.{writes_two}
use Rattle.play_forecast.specs.Files.{Course}
use Rattle.rehearse.specs.CourseSteps.{course_of}
use Rattle.rehearse.proofs.CoursesLemmas.{line_more}
use Rattle.plan_occupancy.specs.CourseSurveys.{surveyed_lines}
use Rattle.plan_occupancy.proofs.course.write_each.Goals as goal

pub write_one-requires : goal.write_one-requires
write_one-requires g c =
    record { told = c.requires.told.each c.loop-place.place c.index-courses-place.result c.index-surveys-place.result c.loop-place-test.true c.index-courses-place.is c.index-surveys-place.is }

pub loop-place-preserved : goal.loop-place-preserved
loop-place-preserved g c =
    let piece : ℕ → Course → List ℕ = surveyed_lines c.args.manner.paint c.args.fleet.now c.args.manner.several in
    let i : ℕ = c.loop-place.place in
    writes_two _ c.args.text.now c.loop-place.text c.write_one.new.text _ (piece i (course_of c.index-courses-place.result)) _ c.loop-place.invariant c.write_one.ensures
    (line_more piece c.args.courses.now i c.index-courses-place.result c.loop-place-test.true c.index-courses-place.is)
