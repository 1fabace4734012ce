-- What is told of a play's groups below its text: the table, who is down at its beginning, and which group holds whom that was set aside.
use Rattle.std.specs.Prelude.{ℕ, Option, None, Some, List, [], ◌∷◌, ◌++◌, codes, flat_map, length, map, take}
use Rattle.fleet_index.specs.NumberLists.{numbers_where}
use Rattle.domains.specs.FleetViews.{FleetView}
use Rattle.domains.specs.Ids.{host_numbers}
use Rattle.domains.specs.Numbered.{host_at}
use Rattle.fleet_states.specs.declared.status.Status.{Status}
use Rattle.fleet_states.specs.Statuses.{is_down, status_at}
use Rattle.batch_plan.specs.Counts.{limited_groups}
use Rattle.batch_plan.specs.declared.answers.Answer.{Answer}
use Rattle.batch_plan.specs.declared.answers.Answer.TheVariants.{Planned, Blocked}
use Rattle.batch_plan.specs.declared.answers.Bound.{Bound}
use Rattle.batch_plan.specs.declared.answers.Bound.TheVariants.{Group, Serial, OneHost, Nothing}
use Rattle.play_forecast.specs.Courses.{batches_of, next_batch}
use Rattle.play_forecast.specs.Files.{Course}
use Rattle.play_forecast.specs.declared.boundary.Boundary.{Boundary}
use Rattle.recap.specs.PlanText.{names_line}
use Rattle.run_diagnosis.specs.Fulls.{first_full}
use Rattle.occupancy_table.specs.declared.color_mode.ColorMode.{ColorMode}
use Rattle.occupancy_table.specs.Columns.{Column, counts_in, now, planned}
use Rattle.occupancy_table.specs.TableText.{GridView, table_text}
use Rattle.rehearse.specs.CourseTexts.{batches_opened}

-- hosts that were set aside, and how all hosts stand once they are
pub record Aside : Type 0 where
  pub statuses : List Status
  pub hosts : List ℕ

-- what is told of: the statuses at the play's beginning, the batches with what stands before each, the group whose name is marked, and who was set aside
pub record Outlook : Type 0 where
  pub start : List Status
  pub batches : List Column
  pub mark : Option ℕ
  pub asides : List Aside

-- all columns of the table
abbrev pub columns_of : Outlook → List Column
columns_of outlook = now outlook.start ∷ outlook.batches

-- the group that a bound names, if it names one
abbrev pub bound_group : Bound → Option ℕ
bound_group (Group group waiting room) = Some group.index
bound_group (Serial waiting size) = None
bound_group OneHost = None
bound_group Nothing = None

-- the group that forces the number of an answer's batches, as a plan names it
abbrev pub forcing : Answer → Option ℕ
forcing (Planned plan) = bound_group plan.bound
forcing (Blocked group waiting) = None

-- what is told of a plan that is made of these statuses, once these hosts are set aside
abbrev pub plan_outlook : List Status → Answer → List ℕ → Outlook
plan_outlook statuses answer held = record {
  start = statuses;
  batches = planned statuses (batches_of answer);
  mark = forcing answer;
  asides = record { statuses = statuses; hosts = held } ∷ [];
}

abbrev pub start_of : List Boundary → List Status
start_of [] = []
start_of (first ∷ rest) = first.statuses.items

abbrev pub first_forcing : List Boundary → Option ℕ
first_forcing [] = None
first_forcing (first ∷ rest) = forcing first.answer

-- the batch that a boundary opened
abbrev pub opened : Boundary → Column
opened boundary = record { before = boundary.statuses.items; batch = next_batch boundary.answer }

abbrev pub aside_at : Boundary → Aside
aside_at boundary = record { statuses = boundary.statuses.items; hosts = host_numbers boundary.held.items }

-- what is told of a course: each boundary but the last opened its batch, and the plan of the first names the group that is marked
abbrev pub course_outlook : Course → Outlook
course_outlook course = record {
  start = start_of course.boundaries;
  batches = map opened (take (batches_opened course) course.boundaries);
  mark = first_forcing course.boundaries;
  asides = map aside_at course.boundaries;
}

abbrev pub grid_view : ColorMode → FleetView → Outlook → GridView
grid_view paint fleet outlook =
    record { fleet = fleet; mark = outlook.mark; groups = limited_groups fleet; counts = map (counts_in fleet) (columns_of outlook); paint = paint }

-- who is down, by name
abbrev pub down_hosts : FleetView → List Status → List ℕ
down_hosts fleet statuses = numbers_where (λ host. is_down (status_at statuses host)) (length fleet.hosts)

-- `down: NAME ..`, where hosts are down
abbrev pub down_line : FleetView → List ℕ → List ℕ
down_line fleet [] = []
down_line fleet (host ∷ hosts) = names_line (codes "down:") fleet (host ∷ hosts)

abbrev pub holder_text : FleetView → Option ℕ → List ℕ
holder_text fleet None = []
holder_text fleet (Some group) = codes ": " ++ host_at fleet.groups group

-- a host that was set aside, and the outermost of its groups that has no room
pub record HeldView : Type 0 where
  pub host : ℕ
  pub group : Option ℕ

-- `held NAME: GROUP`
abbrev pub held_line : FleetView → HeldView → List ℕ
held_line fleet held = codes "held " ++ (host_at fleet.hosts held.host ++ (holder_text fleet held.group ++ codes "\n"))

abbrev pub held_of : FleetView → Aside → List HeldView
held_of fleet aside = map (λ host. record { host = host; group = first_full fleet aside.statuses host }) aside.hosts

-- what stands below a play's text, its table painted so
abbrev pub survey_text : ColorMode → FleetView → Outlook → List ℕ
survey_text paint fleet outlook =
    table_text (grid_view paint fleet outlook) ++ (down_line fleet (down_hosts fleet outlook.start) ++ flat_map (held_line fleet) (flat_map (held_of fleet) outlook.asides))
