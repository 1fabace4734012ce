-- The lines of hosts with their states and their batches.
use Rattle.std.specs.Prelude.{ℕ, ◌+◌, Option, Some, None, option_map, List, ◌++◌, codes, flat_map, position}
use Rattle.fleet_index.specs.NumberLists.{has_number}
use Rattle.domains.specs.FleetViews.{FleetView}
use Rattle.domains.specs.Numbered.{host_at}
use Rattle.fleet_states.specs.Statuses.{status_at}
use Rattle.batch_plan.specs.declared.answers.Answer.{Answer}
use Rattle.play_forecast.specs.Courses.{batches_of}
use Rattle.recap.specs.LimitsText.{field_text}
use Rattle.recap.specs.RecapText.{state_word}
use Rattle.rehearse.specs.declared.stage.Stage.{Stage}

-- the number, from 1, of the batch in which the plan has the host
abbrev pub batch_number : Answer → ℕ → Option ℕ
batch_number answer host = option_map (λ place. place + 1) (position (has_number host) (batches_of answer))

-- ` batch=I`; ` batch=-` where the plan has the host in none
abbrev pub batch_text : Option ℕ → List ℕ
batch_text (Some number) = field_text (codes " batch=") number
batch_text None = codes " batch=-"

-- `NAME state=S batch=I`
abbrev pub member_line : FleetView → Stage → ℕ → List ℕ
member_line fleet stage host =
    host_at fleet.hosts host
    ++ (codes " state=" ++ (state_word (status_at stage.boundary.statuses.items host) ++ (batch_text (batch_number stage.boundary.answer host) ++ codes "\n")))

-- the lines of these hosts; idle ones have theirs too
abbrev pub member_lines : FleetView → Stage → List ℕ → List ℕ
member_lines fleet stage hosts = flat_map (member_line fleet stage) hosts
