-- Runs that go on begin as planned, and open what was foreseen.
use Rattle.std.proofs.Common.{◌≡◌, ℕ, None, Some, List, [], ◌∷◌, ◌++◌, length, refl, sym, ap, ◌∙◌, subst, arith}
use Rattle.host_track.specs.Endings.{Ending}
use Rattle.play_forecast.proofs.SameLemmas.{one_boundary_more, one_way}
use Rattle.play_forecast.specs.Courses.{IsCourse, Setting, end_here}
use Rattle.play_forecast.specs.Laws.{AreSameSoFar}
use Rattle.play_forecast.specs.declared.boundary.Boundary.{Boundary}
use Rattle.play_model.specs.declared.play.Play.{Play}
use Rattle.event_log.specs.Rolls.{Roll}
use Rattle.event_log.specs.Told.{Work}
use Rattle.rehearse.specs.CourseTexts.{AreCoursesFrom, failing_by}
use Rattle.roll_run.specs.Files.{TellTheirs}
use Rattle.roll_run.specs.Plays.{AreRuns}
use Rattle.roll_run.specs.Runs.{roll_by, setting_of}
use Rattle.run_forecast_laws.proofs.CourseLemmas.{runs_open_their_courses}
use Rattle.run_forecast_laws.specs.Courses.{AreForeseen, FailTheirs}
use Rattle.resume_preview.specs.Laws.{BeginWith, RunsGoOnAsForeseen, RunsGoOnAsPlanned}
use Rattle.resume_preview.proofs.RestLemmas.{same_play}

-- boundaries that are the same as far as one goes begin with it
begin_with : (boundaries behind : List Boundary) (last boundary : Boundary) → boundaries ≡ behind ++ last ∷ [] → AreSameSoFar boundaries (boundary ∷ []) → BeginWith boundaries boundary
begin_with [] [] last boundary are same = absurd (cc)
begin_with [] (b ∷ behind) last boundary are same = absurd (cc)
begin_with (first ∷ rest) behind last boundary are same = same.0

pub runs_go_on_as_planned : (may : Work → Ending → Type 0) → RunsGoOnAsPlanned may
runs_go_on_as_planned may asked resumption boundary next form forks runs logs text columns recap tells =
    let first : Play = next.goes.gone.first in
    let statuses = resumption.beginning.start.statuses.items in
    let own : Roll = roll_by resumption.fleet recap.are.first forks statuses resumption.beginning.start.vars.items in
    let took = recap.are.is_first.by columns tells in
    let is : first ≡ recap.are.first = same_play first recap.are.first next.goes.gone.later recap.are.later (sym next.goes.gone.on.left ∙ recap.are.plays_are) in
    let setting : Play → Setting = λ (play : Play). setting_of resumption.fleet (roll_by resumption.fleet play forks statuses resumption.beginning.start.vars.items) columns in
    let mine = subst (λ (play : Play). IsCourse (setting play) statuses (boundary ∷ []) (end_here None boundary)) is
    (one_boundary_more (setting first) statuses [] boundary refl next.planned) in
    begin_with recap.are.run.boundaries.items took.behind took.last boundary took.boundaries_are
    (one_way (setting_of resumption.fleet own columns) statuses recap.are.run.boundaries.items (boundary ∷ []) (Some recap.are.run.end) (end_here None boundary) took.course mine)

pub runs_go_on_as_foreseen : (may : Work → Ending → Type 0) → RunsGoOnAsForeseen may
runs_go_on_as_foreseen may asked failing resumption courses next forks run rest logs columns =
    let fleet = resumption.fleet in
    let statuses = resumption.beginning.start.statuses.items in
    let vars = resumption.beginning.start.vars.items in
    let gone = next.goes.gone in
    let fails = failing_by fleet failing in
    subst (λ (plays : List Play). AreRuns may fleet forks plays statuses vars (run ∷ rest) logs → TellTheirs columns fleet forks plays statuses vars (run ∷ rest) logs
    → FailTheirs columns fails fleet forks plays statuses vars (run ∷ rest) → AreForeseen fleet courses (run ∷ rest)) (sym gone.on.left)
    (λ are tell fail. runs_open_their_courses may columns fails fleet forks gone.first gone.later statuses vars run rest logs are tell fail courses
    (subst (λ (plays : List Play). AreCoursesFrom fleet fails plays statuses courses) gone.on.left next.are))
