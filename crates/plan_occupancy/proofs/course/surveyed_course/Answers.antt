use Rattle.std.proofs.Common.{◌≡◌, ◌<◌, ◌≤◌, ◌*◌, ◌^◌, List, All, length, map, sym, ap, subst, arith}
use Rattle.std.proofs.KnownBytes.{Keeps-refl}
use Rattle.std.specs.List.{sum_by}
use Rattle.std.specs.Prelude.{nat_lt}
use Rattle.bounded_io.specs.Sending.{SendsFirst}
use Rattle.domains.specs.FleetViews.{FleetView, IsSound}
use Rattle.play_model.specs.declared.play.Play.{Play}
use Rattle.plan_command.proofs.PlayLemmas.{has_play}
use Rattle.rehearse.specs.CourseSteps.{course_of}
use Rattle.rehearse.specs.CourseTexts.{AreCoursesBy, batches_opened, failing_by}
use Rattle.rehearse.specs.declared.course.PlayCourse.{PlayCourse}
use Rattle.rehearse.proofs.CourseTextLemmas.{counted, few_plays, some_course}
use Rattle.plan_occupancy.specs.CourseSurveys.{surveyed_text}
use Rattle.plan_occupancy.specs.Inside.{IsWalked}
use Rattle.plan_occupancy.proofs.TextLemmas.{breaks_course, refused_course_beside}
use Rattle.plan_occupancy.proofs.WalkLemmas.{all_walked, good_courses}
use Rattle.plan_occupancy.proofs.course.surveyed_course.Goals as goal

pub returns-in-Err-read_known_plays-clause-err : goal.returns-in-Err-read_known_plays-clause-err
returns-in-Err-read_known_plays-clause-err g c =
    refused_course_beside c.args.inventory.now c.args.playbook.now c.args.failing.now c.args.paint _ _ c.in-Ok.fleet c.in-Ok.ensures.ok c.in-Err-read_known_plays.fault
    (Keeps-refl (g.W.Write.contents c.args.out.now)) c.in-Err-read_known_plays.ensures.err

pub foresee-requires : goal.foresee-requires
foresee-requires g c =
    let some = has_play 16 c.args.playbook.now c.in-Ok-read_known_plays.plays.items c.in-Ok-read_known_plays.ensures.ok.reads in
    record { some = subst (λ (plays : List Play). 0 < length plays) (sym c.as_slice.ensures.value) some }

pub survey_all-requires : goal.survey_all-requires
survey_all-requires g c =
    let fleet = c.in-Ok.fleet in
    let sound = subst IsSound c.fleet.view_is c.fleet.invariant.sound in
    let courses = c.in-Ok-foresee.courses.items in
    let good = good_courses fleet (failing_by fleet c.args.failing.now) sound c.as_slice.result.now (map course_of courses) c.in-Ok-foresee.ensures.are in
    record { walked = subst (All (IsWalked fleet)) (sym c.as_slice-courses.ensures.value) (all_walked fleet courses good) }

pub send_courses-requires-clause-few : goal.send_courses-requires-clause-few
send_courses-requires-clause-few g c =
    let plays = c.in-Ok-read_known_plays.plays.items in
    let few = few_plays 16 c.args.playbook.now plays c.in-Ok-read_known_plays.ensures.ok.reads in
    let batches = sum_by batches_opened (map course_of c.in-Ok-foresee.courses.items) in
    let within = subst (λ (l : List Play). batches ≤ length l * length c.in-Ok.fleet.hosts) c.as_slice.ensures.value c.in-Ok-foresee.ensures.few in
    let least = subst (λ (fleet : FleetView). length fleet.hosts ≤ 4096) c.fleet.view_is c.fleet.invariant.sound.few_hosts in
    let fits = counted (length plays) (length c.in-Ok.fleet.hosts) _ few least within in
    subst (λ (l : List PlayCourse). sum_by batches_opened (map course_of l) < 2 ^ 64) (sym c.as_slice-courses.ensures.value) fits

pub last_end-requires : goal.last_end-requires
last_end-requires g c =
    let fleet = c.in-Ok.fleet in
    let some = some_course fleet (failing_by fleet c.args.failing.now) c.as_slice.result.now c.in-Ok-foresee.courses.items c.in-Ok-foresee.ensures.are in
    record { some = subst (λ (l : List PlayCourse). 0 < length l) (sym c.as_slice-courses.ensures.value) some }

pub returns-clause-err : goal.returns-clause-err
returns-clause-err g c =
    let fleet = c.in-Ok.fleet in
    let plays = c.in-Ok-read_known_plays.plays.items in
    let courses = c.in-Ok-foresee.courses.items in
    let several = nat_lt 1 c.len.result in
    let said = c.in-Ok-foresee.ensures in
    let long : c.len.result ≡ length plays = omega (arith, c.len.ensures, c.in-Ok-read_known_plays.plays.ok) in
    let are = subst (λ (l : List Play). AreCoursesBy fleet (failing_by fleet c.args.failing.now) l (map course_of courses)) c.as_slice.ensures.value said.are in
    let old = g.W.Write.contents c.args.out.now in
    let new = g.W.Write.contents c.send_courses.new.out in
    let count = c.in-Err-send_courses.fault.written in
    let paint = c.args.paint in
    let written = subst (λ (l : List PlayCourse). SendsFirst old new (surveyed_text paint fleet several (map course_of l)) count) c.as_slice-courses.ensures.value c.in-Err-send_courses.ensures in
    breaks_course c.args.inventory.now c.args.playbook.now c.args.failing.now paint old new fleet plays courses several count c.in-Ok.ensures.ok c.in-Ok-read_known_plays.ensures.ok said.known
    are (ap (nat_lt 1) long) written
