-- An answer in lines for people.
use Rattle.std.specs.Prelude.{ℕ, Option, Some, None, List, [], ◌∷◌, ◌++◌, codes, flat_map, length}
use Rattle.std.specs.List.{range_with_len}
use Rattle.group_tree.specs.Names.{Name}
use Rattle.group_tree.specs.declared.ids.HostId.{HostId}
use Rattle.domains.specs.FleetViews.{FleetView}
use Rattle.domains.specs.Numbered.{host_at}
use Rattle.fleet_states.specs.declared.status.Status.{Status}
use Rattle.fleet_states.specs.declared.status.Status.TheVariants as status
use Rattle.fleet_states.specs.Statuses.{status_at}
use Rattle.play_forecast.specs.declared.end.End.{End}
use Rattle.recap.specs.PlanText.{names_line, plan_text}
use Rattle.recap.specs.Printable.{printed}
use Rattle.recap.specs.RecapText.{ended_line, state_word}
use Rattle.rehearse.specs.declared.stage.Stage.{Stage}
use Rattle.rehearse.specs.Help.{help_text}
use Rattle.rehearse.specs.Hosts.{member_lines}
use Rattle.rehearse.specs.Replies.{Refused, Telling, advanced, bad_command, help, hosts, marked, no_such_name, not_in_batch, not_waiting, nothing_to_undo, over, plan, refused, show, undone}

-- `refused 304 NoSuchName name=NAME`
abbrev pub nobody_line : Name → List ℕ
nobody_line name = codes "refused 304 NoSuchName name=" ++ (printed name ++ codes "\n")

-- `refused 831 NotInBatch host=NAME`
abbrev pub outside_line : FleetView → HostId → List ℕ
outside_line fleet host = codes "refused 831 NotInBatch host=" ++ (printed (host_at fleet.hosts host.index) ++ codes "\n")

-- `refused 833 NotWaiting host=NAME`
abbrev pub waiting_line : FleetView → HostId → List ℕ
waiting_line fleet host = codes "refused 833 NotWaiting host=" ++ (printed (host_at fleet.hosts host.index) ++ codes "\n")

-- the line of a refusal
abbrev pub refused_line : FleetView → Refused → List ℕ
refused_line fleet (no_such_name name) = nobody_line name
refused_line fleet over = codes "refused 832 Over\n"
refused_line fleet (not_in_batch host) = outside_line fleet host
refused_line fleet (not_waiting host) = waiting_line fleet host
refused_line fleet bad_command = codes "refused 905 BadCommand\n"

-- `advanced: NAME ..` for each batch
abbrev pub advanced_lines : FleetView → List (List ℕ) → List ℕ
advanced_lines fleet batches = flat_map (names_line (codes "advanced:") fleet) batches

-- `marked: NAME`
abbrev pub marked_line : FleetView → HostId → List ℕ
marked_line fleet host = names_line (codes "marked:") fleet (host.index ∷ [])

-- `NAME STATE`; an idle host has no line
abbrev pub status_line : List ℕ → Status → List ℕ
status_line name status.Idle = []
status_line name status.Waiting = name ++ (codes " " ++ (state_word status.Waiting ++ codes "\n"))
status_line name status.Running = name ++ (codes " " ++ (state_word status.Running ++ codes "\n"))
status_line name status.Updated = name ++ (codes " " ++ (state_word status.Updated ++ codes "\n"))
status_line name status.Failed = name ++ (codes " " ++ (state_word status.Failed ++ codes "\n"))
status_line name status.Halted = name ++ (codes " " ++ (state_word status.Halted ++ codes "\n"))
status_line name status.Off = name ++ (codes " " ++ (state_word status.Off ++ codes "\n"))
status_line name status.Held = name ++ (codes " " ++ (state_word status.Held ++ codes "\n"))

-- the lines of the hosts, by name
abbrev pub status_lines : FleetView → List Status → List ℕ
status_lines fleet statuses = flat_map (λ host. status_line (host_at fleet.hosts host) (status_at statuses host)) (range_with_len 0 (length fleet.hosts))

-- how the play ended; `end none` where it goes on
abbrev pub end_so_far : FleetView → Option End → List ℕ
end_so_far fleet (Some end) = ended_line fleet end
end_so_far fleet None = codes "end none\n"

-- the hosts and the end where the rehearsal stands
abbrev pub show_text : FleetView → Stage → List ℕ
show_text fleet stage = status_lines fleet stage.boundary.statuses.items ++ end_so_far fleet stage.end

-- the lines of an answer
abbrev pub plain_reply : Telling
plain_reply fleet (refused why) = refused_line fleet why
plain_reply fleet (advanced batches) = advanced_lines fleet batches
plain_reply fleet (marked host) = marked_line fleet host
plain_reply fleet undone = codes "undone\n"
plain_reply fleet nothing_to_undo = codes "nothing to undo\n"
plain_reply fleet (plan answer) = plan_text fleet answer []
plain_reply fleet (show stage) = show_text fleet stage
plain_reply fleet (hosts stage members) = member_lines fleet stage members
plain_reply fleet help = help_text
