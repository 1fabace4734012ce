use Rattle.std.proofs.Common.{ℕ, ◌+◌, List}
use Rattle.bounded_io.proofs.WritingLemmas.{writes_two}
use Rattle.play_forecast.specs.Files.{Course}
use Rattle.rehearse.specs.CourseSteps.{course_of}
use Rattle.rehearse.specs.CourseTexts.{course_lines, numbered}
use Rattle.rehearse.proofs.CoursesLemmas.{line_more_from}
use Rattle.rehearse.proofs.printing.write_courses.Goals as goal

pub loop-place-preserved : goal.loop-place-preserved
loop-place-preserved g c =
    let piece : ℕ → Course → List ℕ = λ place course. numbered c.args.several (place + 1) (course_lines c.args.fleet.now course) in
    let i : ℕ = c.loop-place.place in
    writes_two _ c.args.text.now c.loop-place.text c.write_course.new.text _ (piece (c.args.plays_before + i) (course_of c.index-courses-place.result)) _ c.loop-place.invariant c.write_course.ensures
    (line_more_from piece c.args.plays_before c.args.courses.now i c.index-courses-place.result c.loop-place-test.true c.index-courses-place.is)
