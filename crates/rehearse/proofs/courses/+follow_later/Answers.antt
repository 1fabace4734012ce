use Rattle.std.proofs.Common.{◌-◌, List, drop, length, take, sym, ap, ◌∙◌, subst}
use Rattle.fleet_states.specs.Batches.{fails_in}
use Rattle.fleet_states.specs.declared.status.Status.{Status}
use Rattle.batch_plan.specs.Beginnings.{restart_statuses}
use Rattle.play_model.specs.declared.play.Play.{Play}
use Rattle.play_forecast.specs.PlayPlans.{targets}
use Rattle.rehearse.specs.CourseSteps.{HasFollowed, IsWholeCourse}
use Rattle.rehearse.specs.CourseTexts.{setting_by}
use Rattle.rehearse.proofs.CoursesLemmas.{finished, on_ok, one_more, split}
use Rattle.rehearse.proofs.courses.+follow_later.Goals as goal

pub returns : goal.returns
returns t c =
    let fleet = c.args.fleet.now in
    let fails = fails_in c.args.failing.now in
    let plays = c.args.plays.now in
    let play = c.play-item.result in
    let rest = take (length plays - 1) (drop 1 plays) in
    let course = c.in_ok-course.course in
    let whole = subst (λ (l : List Status). IsWholeCourse (setting_by fleet fails play) (restart_statuses l (targets fleet play)) course) c.last_statuses.ensures c.in_ok-course.ensures in
    let ended = finished c.args.before.end (sym c.is_finished.ensures ∙ c.if-not-is_finished.false) in
    let old = c.args.courses.now.items in
    let new = c.follow_later.new.courses.items in
    on_ok c.follow_later.result
    (λ has. subst (λ (l : List Play). HasFollowed fleet fails l c.args.before old new) (sym (split plays play c.in-len1-up.len_at_least c.play-item.is))
    (one_more fleet fails c.args.before old new play rest course c.push-2.new.self.items ended c.in_ok-push-3.ensures.items whole has)) c.follow_later.ensures
