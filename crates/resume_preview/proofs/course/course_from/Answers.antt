use Rattle.std.proofs.Common.{◌≡◌, ◌<◌, ◌≤◌, ◌*◌, ◌^◌, ℕ, List, drop, length, map, refl, sym, ap, ◌∙◌, subst, arith}
use Rattle.std.proofs.KnownBytes.{Keeps-refl}
use Rattle.std.proofs.lemmas.List.{length-map}
use Rattle.std.specs.Io.KnownBytes.{Appends}
use Rattle.std.specs.List.{sum_by}
use Rattle.std.specs.Prelude.{nat_lt}
use Rattle.bounded_io.specs.Sending.{SendsFirst}
use Rattle.domains.specs.FleetViews.{FleetView}
use Rattle.play_model.specs.declared.play.Play.{Play}
use Rattle.rehearse.proofs.CourseTextLemmas.{ends_somehow}
use Rattle.rehearse.specs.CourseSteps.{course_of}
use Rattle.rehearse.specs.CourseTexts.{AreCoursesFrom, IsEndOf, batches_opened, courses_text_from, failing_by}
use Rattle.rehearse.specs.declared.course.PlayCourse.{PlayCourse}
use Rattle.resume_preview.specs.Asked.{question_of}
use Rattle.resume_preview.proofs.CourseLemmas.{few_batches, few_courses, few_numbers, next_courses, some_courses}
use Rattle.resume_preview.proofs.RestLemmas.{some_behind}
use Rattle.resume_preview.proofs.course.course_from.Goals as goal

pub behind-coming-requires : goal.behind-coming-requires
behind-coming-requires g c = omega (arith, c.in-Ok.ensures.can.play, ap length c.as_slice.ensures.value)

pub foresee_from-requires-clause-some : goal.foresee_from-requires-clause-some
foresee_from-requires-clause-some g c =
    let resumption = c.in-Ok.resumption in
    let some = some_behind resumption.beginning.plays_before resumption.plays.items c.in-Ok.ensures.can.play in
    subst (λ (l : List Play). 0 < length l) (sym (c.behind-coming.ensures ∙ ap (drop resumption.beginning.plays_before) c.as_slice.ensures.value)) some

pub foresee_from-requires-clause-all : goal.foresee_from-requires-clause-all
foresee_from-requires-clause-all g c = c.in-Ok.ensures.can.starts.ready.all_hosts

pub send_courses-requires : goal.send_courses-requires
send_courses-requires g c =
    let resumption = c.in-Ok.resumption in
    let fleet = resumption.fleet in
    let plays : List Play = resumption.plays.items in
    let before : ℕ = resumption.beginning.plays_before in
    let courses : List PlayCourse = c.in-Ok-foresee_from.courses.items in
    let reads = c.in-Ok.ensures.ok.says.reads in
    let rest : c.behind-coming.result.now ≡ drop before plays = c.behind-coming.ensures ∙ ap (drop before) c.as_slice.ensures.value in
    let batches = sum_by batches_opened (map course_of courses) in
    let within = subst (λ (l : List Play). batches ≤ length l * length fleet.hosts) rest c.in-Ok-foresee_from.ensures.few in
    let least = subst (λ (f : FleetView). length f.hosts ≤ 4096) c.fleet.view_is c.fleet.invariant.sound.few_hosts in
    let are = subst (λ (l : List Play). AreCoursesFrom fleet (failing_by fleet c.args.failing.now) l resumption.beginning.start.statuses.items (map course_of courses)) rest c.in-Ok-foresee_from.ensures.are in
    let few = few_courses fleet (failing_by fleet c.args.failing.now) (drop before plays) resumption.beginning.start.statuses.items (map course_of courses) are in
    record {
      before = omega (arith, ap length c.as_slice-2.ensures.value, few_numbers c.args.asked.now.playbook.now plays before (length (map course_of courses)) reads c.in-Ok.ensures.can.play few, length-map courses course_of);
      few = subst (λ (l : List PlayCourse). sum_by batches_opened (map course_of l) < 2 ^ 64) (sym c.as_slice-2.ensures.value)
          (few_batches c.args.asked.now.playbook.now plays before (length fleet.hosts) batches reads least within);
    }

pub returns-in-Err-foresee_from-clause-err : goal.returns-in-Err-foresee_from-clause-err
returns-in-Err-foresee_from-clause-err g c =
    (record { resumption = c.in-Ok.resumption; goes = c.in-Ok.ensures.ok; refused = c.in-Err-foresee_from.ensures.err }, Keeps-refl (g.W.Write.contents c.args.out.now))

pub last_end-requires : goal.last_end-requires
last_end-requires g c =
    let resumption = c.in-Ok.resumption in
    let courses : List PlayCourse = c.in-Ok-foresee_from.courses.items in
    let some = some_courses resumption.fleet (failing_by resumption.fleet c.args.failing.now) c.behind-coming.result.now resumption.beginning.start.statuses.items (map course_of courses) c.in-Ok-foresee_from.ensures.are in
    omega (arith, some, length-map courses course_of, ap length c.as_slice-in-Ok-send_courses.ensures.value)

pub returns-in-Ok-send_courses-clause-ok : goal.returns-in-Ok-send_courses-clause-ok
returns-in-Ok-send_courses-clause-ok g c =
    let resumption = c.in-Ok.resumption in
    let fleet = resumption.fleet in
    let plays : List Play = resumption.plays.items in
    let before : ℕ = resumption.beginning.plays_before in
    let courses : List PlayCourse = c.in-Ok-foresee_from.courses.items in
    let rest : c.behind-coming.result.now ≡ drop before plays = c.behind-coming.ensures ∙ ap (drop before) c.as_slice.ensures.value in
    let several = nat_lt 1 c.len.result in
    let long : c.len.result ≡ length plays = omega (arith, c.len.ensures) in
    record {
      text = courses_text_from before fleet several (map course_of courses);
      is = record {
        resumption = resumption;
        courses = map course_of courses;
        are = next_courses (question_of c.args.asked.now) c.args.failing.now resumption c.in-Ok.ensures.ok c.in-Ok-foresee_from.ensures.known c.behind-coming.result.now rest (map course_of courses) c.in-Ok-foresee_from.ensures.are;
        text_is = ap (λ n. courses_text_from before fleet (nat_lt 1 n) (map course_of courses)) long;
        ends = subst (λ (l : List PlayCourse). IsEndOf (map course_of l) c.last_end.result) c.as_slice-in-Ok-send_courses.ensures.value c.last_end.ensures;
      };
      written = subst (λ (l : List PlayCourse). Appends (g.W.Write.contents c.args.out.now) (g.W.Write.contents c.send_courses.new.out) (courses_text_from before fleet several (map course_of l)))
          c.as_slice-2.ensures.value c.in-Ok-send_courses.ensures;
    }

pub returns-clause-err : goal.returns-clause-err
returns-clause-err g c =
    let resumption = c.in-Ok.resumption in
    let fleet = resumption.fleet in
    let plays : List Play = resumption.plays.items in
    let before : ℕ = resumption.beginning.plays_before in
    let courses : List PlayCourse = c.in-Ok-foresee_from.courses.items in
    let rest : c.behind-coming.result.now ≡ drop before plays = c.behind-coming.ensures ∙ ap (drop before) c.as_slice.ensures.value in
    let several = nat_lt 1 c.len.result in
    let long : c.len.result ≡ length plays = omega (arith, c.len.ensures) in
    let some = some_courses fleet (failing_by fleet c.args.failing.now) c.behind-coming.result.now resumption.beginning.start.statuses.items (map course_of courses) c.in-Ok-foresee_from.ensures.are in
    let ends = ends_somehow courses (omega (arith, some, length-map courses course_of)) in
    record {
      text = courses_text_from before fleet several (map course_of courses);
      end = ends.0;
      is = record {
        resumption = resumption;
        courses = map course_of courses;
        are = next_courses (question_of c.args.asked.now) c.args.failing.now resumption c.in-Ok.ensures.ok c.in-Ok-foresee_from.ensures.known c.behind-coming.result.now rest (map course_of courses) c.in-Ok-foresee_from.ensures.are;
        text_is = ap (λ n. courses_text_from before fleet (nat_lt 1 n) (map course_of courses)) long;
        ends = ends.1;
      };
      written = subst (λ (l : List PlayCourse). SendsFirst (g.W.Write.contents c.args.out.now) (g.W.Write.contents c.send_courses.new.out) (courses_text_from before fleet several (map course_of l)) c.in-Err-send_courses.fault.written)
          c.as_slice-2.ensures.value c.in-Err-send_courses.ensures;
    }
