-- What a run that goes on has to do with what was told of it.
use Rattle.std.specs.Prelude.{◌≡◌, ◌<◌, ℕ, true, List, [], ◌∷◌, count_by, length}
use Rattle.fleet_index.specs.NumberLists.{has_number}
use Rattle.fleet_states.specs.declared.status.Status.TheVariants.{Updated}
use Rattle.fleet_states.specs.Statuses.{is_waiting, status_at}
use Rattle.host_track.specs.Endings.{Ending}
use Rattle.json_output.specs.declared.form.Form.{Form}
use Rattle.play_forecast.specs.Files.{Course}
use Rattle.play_forecast.specs.Laws.{IsSameBoundary}
use Rattle.play_forecast.specs.declared.boundary.Boundary.{Boundary}
use Rattle.event_log.specs.Columns.{Columns, Tells}
use Rattle.event_log.specs.Events.{Event}
use Rattle.event_log.specs.Once.{is_report_of}
use Rattle.event_log.specs.Told.{Work}
use Rattle.journal.specs.States.{resumes}
use Rattle.rehearse.specs.CourseTexts.{failing_by}
use Rattle.resume_state.specs.declared.inputs.Resumption.{Resumption}
use Rattle.roll_run.specs.Files.{TellTheirs}
use Rattle.roll_run.specs.Plays.{AreRuns}
use Rattle.roll_run.specs.Runs.{roll_by}
use Rattle.roll_run.specs.declared.run.Run.{Run}
use Rattle.run_forecast_laws.specs.Courses.{AreForeseen, FailTheirs}
use Rattle.run_command.specs.Beginnings.{IsRecapFrom, plays_from}
use Rattle.resume_preview.specs.Asked.{GoesOnWith, Question}
use Rattle.resume_preview.specs.Courses.{AreNextCourses}
use Rattle.resume_preview.specs.Plans.{IsNextBoundary}

-- the first of these is that boundary: the same hosts are set aside, with the same statuses, and the same is planned
abbrev pub BeginWith : List Boundary → Boundary → Type 0
BeginWith [] boundary = ⊥
BeginWith (first ∷ rest) boundary = IsSameBoundary first boundary

-- the runs that go on with what both texts and the journal say, with any number of workers, begin at the boundary whose plan is told
abbrev pub RunsGoOnAsPlanned : (Work → Ending → Type 0) → Type 0
RunsGoOnAsPlanned may =
    (asked : Question) (resumption : Resumption) (boundary : Boundary) → IsNextBoundary asked resumption boundary
    → (form : Form) (forks : ℕ) (runs : List Run) (logs : List (List Event)) (text : List ℕ) (columns : Columns)
    (recap : IsRecapFrom form may resumption.fleet forks resumption.plays.items resumption.beginning runs logs text)
    → Tells columns (roll_by resumption.fleet recap.are.first forks resumption.beginning.start.statuses.items resumption.beginning.start.vars.items) recap.are.log
    → BeginWith recap.are.run.boundaries.items boundary

-- and open what the courses say that are told, where just the named hosts fail in them, each at its first step
abbrev pub RunsGoOnAsForeseen : (Work → Ending → Type 0) → Type 0
RunsGoOnAsForeseen may =
    (asked : Question) (failing : List ℕ) (resumption : Resumption) (courses : List Course) → AreNextCourses asked failing resumption courses
    → (forks : ℕ) (run : Run) (rest : List Run) (logs : List (List Event)) (columns : ℕ → Columns)
    → AreRuns may resumption.fleet forks (plays_from resumption.beginning resumption.plays.items) resumption.beginning.start.statuses.items resumption.beginning.start.vars.items (run ∷ rest) logs
    → TellTheirs columns resumption.fleet forks (plays_from resumption.beginning resumption.plays.items) resumption.beginning.start.statuses.items resumption.beginning.start.vars.items (run ∷ rest) logs
    → FailTheirs columns (failing_by resumption.fleet failing) resumption.fleet forks (plays_from resumption.beginning resumption.plays.items) resumption.beginning.start.statuses.items
    resumption.beginning.start.vars.items (run ∷ rest)
    → AreForeseen resumption.fleet courses (run ∷ rest)

-- in the log of the play that goes on each host that owes its handlers, waits as it begins, and is updated by it, reports each of its steps once: each handler too
abbrev pub RepairedHostsRunEachHandler : (Work → Ending → Type 0) → Type 0
RepairedHostsRunEachHandler may =
    (asked : Question) (resumption : Resumption) (goes : GoesOnWith asked resumption) (forks : ℕ) (runs : List Run) (logs : List (List Event))
    (are : AreRuns may resumption.fleet forks (plays_from resumption.beginning resumption.plays.items) resumption.beginning.start.statuses.items resumption.beginning.start.vars.items runs logs)
    (host step : ℕ) → has_number host (resumes goes.state goes.mended).owing ≡ true → is_waiting (status_at resumption.beginning.start.statuses.items host) ≡ true
    → status_at are.run.statuses.items host ≡ Updated → step < length are.first.steps.items → count_by (is_report_of host step) are.log ≡ 1
