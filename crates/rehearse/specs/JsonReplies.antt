-- An answer as a JSON object on one line.
use Rattle.std.specs.Prelude.{ℕ, Option, Some, None, List, ◌++◌, codes}
use Rattle.group_tree.specs.Names.{Name}
use Rattle.domains.specs.FleetViews.{FleetView}
use Rattle.domains.specs.Numbered.{host_at}
use Rattle.fleet_states.specs.Statuses.{status_at}
use Rattle.fleet_states.specs.declared.status.Status.{Status}
use Rattle.batch_plan.specs.declared.answers.Answer.{Answer}
use Rattle.play_forecast.specs.Courses.{batches_of}
use Rattle.play_forecast.specs.declared.end.End.{End}
use Rattle.recap.specs.LimitsText.{field_text}
use Rattle.recap.specs.RecapText.{state_word}
use Rattle.json_output.specs.Arrays.{array_text, quoted}
use Rattle.json_output.specs.PlanJson.{answer_json, batches_json}
use Rattle.json_output.specs.PlayJson.{ended_json}
use Rattle.json_output.specs.StateJson.{states_json}
use Rattle.json_output.specs.Strings.{string_json}
use Rattle.rehearse.specs.declared.stage.Stage.{Stage}
use Rattle.rehearse.specs.Help.{help_json}
use Rattle.rehearse.specs.Hosts.{batch_number}
use Rattle.rehearse.specs.Replies.{Refused, Telling, advanced, bad_command, help, hosts, marked, no_such_name, not_in_batch, not_waiting, nothing_to_undo, over, plan, refused, show, undone}

-- `{"reply":"refused","number":304,"kind":"NoSuchName","name":"NAME"}`
abbrev pub nobody_json : Name → List ℕ
nobody_json name = codes "{\"reply\":\"refused\",\"number\":304,\"kind\":\"NoSuchName\",\"name\":" ++ (string_json name ++ codes "}\n")

-- `{"reply":"refused","number":831,"kind":"NotInBatch","host":"NAME"}`
abbrev pub outside_json : List ℕ → List ℕ
outside_json host = codes "{\"reply\":\"refused\",\"number\":831,\"kind\":\"NotInBatch\",\"host\":" ++ (quoted host ++ codes "}\n")

-- `{"reply":"refused","number":833,"kind":"NotWaiting","host":"NAME"}`
abbrev pub waiting_json : List ℕ → List ℕ
waiting_json host = codes "{\"reply\":\"refused\",\"number\":833,\"kind\":\"NotWaiting\",\"host\":" ++ (quoted host ++ codes "}\n")

-- the object of a refusal
abbrev pub refused_json : FleetView → Refused → List ℕ
refused_json fleet (no_such_name name) = nobody_json name
refused_json fleet over = codes "{\"reply\":\"refused\",\"number\":832,\"kind\":\"Over\"}\n"
refused_json fleet (not_in_batch host) = outside_json (host_at fleet.hosts host.index)
refused_json fleet (not_waiting host) = waiting_json (host_at fleet.hosts host.index)
refused_json fleet bad_command = codes "{\"reply\":\"refused\",\"number\":905,\"kind\":\"BadCommand\"}\n"

-- `{"reply":"advanced","batches":[..]}`
abbrev pub advanced_json : FleetView → List (List ℕ) → List ℕ
advanced_json fleet batches = codes "{\"reply\":\"advanced\",\"batches\":" ++ (batches_json fleet batches ++ codes "}\n")

-- `{"reply":"marked","host":"NAME"}`
abbrev pub marked_json : List ℕ → List ℕ
marked_json host = codes "{\"reply\":\"marked\",\"host\":" ++ (quoted host ++ codes "}\n")

-- `{"reply":"plan","answer":A,"batches":[..]}`
abbrev pub plan_json : FleetView → Answer → List ℕ
plan_json fleet answer =
    codes "{\"reply\":\"plan\",\"answer\":" ++ (answer_json fleet answer ++ (codes ",\"batches\":" ++ (batches_json fleet (batches_of answer) ++ codes "}\n")))

-- how the play ended; `null` where it goes on
abbrev pub end_so_far : FleetView → Option End → List ℕ
end_so_far fleet (Some end) = ended_json fleet end
end_so_far fleet None = codes "null"

-- `{"reply":"show","hosts":[..],"end":E}`: each host that has a part in the play, by name
abbrev pub show_json : FleetView → Stage → List ℕ
show_json fleet stage =
    codes "{\"reply\":\"show\",\"hosts\":" ++ (states_json fleet stage.boundary.statuses.items ++ (codes ",\"end\":" ++ (end_so_far fleet stage.end ++ codes "}\n")))

-- the number of a batch; `null` where there is none
abbrev pub batch_json : Option ℕ → List ℕ
batch_json (Some number) = field_text (codes ",\"batch\":") number
batch_json None = codes ",\"batch\":null"

-- `{"host":"NAME","state":"S","batch":I}`
abbrev pub member_json : List ℕ → Status → Option ℕ → List ℕ
member_json host state batch =
    codes "{\"host\":" ++ (quoted host ++ (codes ",\"state\":" ++ (quoted (state_word state) ++ (batch_json batch ++ codes "}"))))

-- a host where the rehearsal stands
abbrev pub member_of : FleetView → Stage → ℕ → List ℕ
member_of fleet stage host =
    member_json (host_at fleet.hosts host) (status_at stage.boundary.statuses.items host) (batch_number stage.boundary.answer host)

-- these hosts; idle ones too
abbrev pub members_json : FleetView → Stage → List ℕ → List ℕ
members_json fleet stage members = array_text (λ place host. member_of fleet stage host) members

-- `{"reply":"hosts","hosts":[..]}`
abbrev pub hosts_json : FleetView → Stage → List ℕ → List ℕ
hosts_json fleet stage members = codes "{\"reply\":\"hosts\",\"hosts\":" ++ (members_json fleet stage members ++ codes "}\n")

-- the object of an answer
abbrev pub json_reply : Telling
json_reply fleet (refused why) = refused_json fleet why
json_reply fleet (advanced batches) = advanced_json fleet batches
json_reply fleet (marked host) = marked_json (host_at fleet.hosts host.index)
json_reply fleet undone = codes "{\"reply\":\"undone\"}\n"
json_reply fleet nothing_to_undo = codes "{\"reply\":\"nothing-to-undo\"}\n"
json_reply fleet (plan answer) = plan_json fleet answer
json_reply fleet (show stage) = show_json fleet stage
json_reply fleet (hosts stage members) = hosts_json fleet stage members
json_reply fleet help = help_json
