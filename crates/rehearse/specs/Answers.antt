-- What a rehearsal answers to a line, and where the line leads.
use Rattle.std.specs.Prelude.{◌≡◌, ℕ, Option, Some, None, option_map, List, [], ◌∷◌, drop, length, if◌then◌else◌}
use Rattle.std.specs.Option.{option_or}
use Rattle.group_tree.specs.Names.{Name}
use Rattle.group_tree.specs.declared.ids.HostId.{HostId}
use Rattle.fleet_index.specs.NumberLists.{list_at}
use Rattle.domains.specs.FleetViews.{FleetView}
use Rattle.fleet_states.specs.Statuses.{is_waiting, status_at}
use Rattle.play_forecast.specs.declared.end.End.{End}
use Rattle.play_forecast.specs.Courses.{next_batch}
use Rattle.rehearse.specs.declared.stage.Stage.{Stage}
use Rattle.rehearse.specs.Stacks.{RehearsalView, batches_to, first_outside, top}
use Rattle.rehearse.specs.Histories.{HistoryView, Place, has_earlier, refusing, undone}
use Rattle.rehearse.specs.GoingOn.{HasAdvanced, HasAdvancedBy, HasFinished, marked_as}
use Rattle.rehearse.specs.Commands.{Command, advance, command_in, fail, finish, help, hosts, next, nothing, plan, quit, show, undo, unknown}
use Rattle.rehearse.specs.Names.{first_nobody, group_named, host_named, hosts_named, is_nobody}
use Rattle.rehearse.specs.Replies.{Refused, Reply, Telling, told}
use Rattle.rehearse.specs.Replies as says

-- the play has ended, if it did
abbrev pub over : RehearsalView → Option Refused
over before = option_map (λ (end : End). says.over) (top before).end

-- why an advance is refused: for the first name that is no host's, else since the play has ended, else for the first of the named hosts that does not stand in the batch
abbrev pub refusal : RehearsalView → List Name → Option Refused
refusal before names =
    option_or (option_map (λ (name : Name). says.no_such_name name) (first_nobody before.rules.fleet names))
    (option_or (over before)
    (option_map (λ (host : HostId). says.not_in_batch host) (first_outside (next_batch (top before).boundary.answer) (hosts_named before.rules.fleet names))))

-- why the host of a name is not marked: since the name is no host's, else since the play has ended, else since the host does not wait
abbrev pub mark_refusal : RehearsalView → Name → Option Refused
mark_refusal before name =
    option_or (if is_nobody before.rules.fleet name then Some (says.no_such_name name) else None)
    (option_or (over before)
    (let host : HostId = host_named before.rules.fleet name in
    if is_waiting (status_at (top before).boundary.statuses.items host.index) then None else Some (says.not_waiting host)))

-- that the line is refused, or else this
abbrev pub unless : Option Refused → Reply → Reply
unless (Some why) reply = says.refused why
unless None reply = reply

-- the batch by which the rehearsal goes on
abbrev pub one_batch : RehearsalView → Reply
one_batch before = says.advanced (next_batch (top before).boundary.answer ∷ [])

-- the batches by which it went on from one to the other
abbrev pub batches_between : RehearsalView → RehearsalView → Reply
batches_between before after = says.advanced (drop (length before.above) (batches_to after.first after.above))

-- the hosts of the group; where no group has the name, that the line is refused
abbrev pub group_hosts : FleetView → Stage → Name → Option ℕ → Reply
group_hosts fleet stage name (Some group) = says.hosts stage (list_at fleet.members group)
group_hosts fleet stage name None = says.refused (says.no_such_name name)

-- what is answered where the last of these can be taken back
abbrev pub taken_back : List Place → Reply
taken_back earlier = if has_earlier earlier then says.undone else says.nothing_to_undo

-- what is answered to a command that leads from one rehearsal to the other
abbrev pub answer_to : HistoryView → Command → HistoryView → Option Reply
answer_to before nothing after = None
answer_to before (advance names) after = Some (unless (refusal before.place.rehearsal names) (one_batch before.place.rehearsal))
answer_to before (next count) after = Some (unless (over before.place.rehearsal) (batches_between before.place.rehearsal after.place.rehearsal))
answer_to before finish after = Some (unless (over before.place.rehearsal) (batches_between before.place.rehearsal after.place.rehearsal))
answer_to before (fail name) after = Some (unless (mark_refusal before.place.rehearsal name) (says.marked (host_named before.place.rehearsal.rules.fleet name)))
answer_to before undo after = Some (taken_back before.earlier)
answer_to before plan after = Some (says.plan (top before.place.rehearsal).boundary.answer)
answer_to before show after = Some (says.show (top before.place.rehearsal))
answer_to before (hosts name) after =
    Some (group_hosts before.place.rehearsal.rules.fleet (top before.place.rehearsal) name (group_named before.place.rehearsal.rules.fleet name))
answer_to before help after = Some says.help
answer_to before quit after = None
answer_to before unknown after = Some (says.refused says.bad_command)

-- the text that is answered to it
abbrev pub text_to : Telling → HistoryView → Command → HistoryView → List ℕ
text_to tell before command after = told tell after.place.rehearsal.rules.fleet (answer_to before command after)

-- where a session comes that is to advance: nowhere, where it is refused
abbrev pub AdvancesTo : HistoryView → List Name → Option Refused → HistoryView → Type 0
AdvancesTo before names (Some why) after = after ≡ refusing before
AdvancesTo before names None after = HasAdvanced (hosts_named before.place.rehearsal.rules.fleet names) before after

-- where it comes by so many batches
abbrev pub GoesOnTo : HistoryView → ℕ → Option Refused → HistoryView → Type 0
GoesOnTo before count (Some why) after = after ≡ refusing before
GoesOnTo before count None after = HasAdvancedBy count before after

-- where it comes at the end of the play
abbrev pub FinishesTo : HistoryView → Option Refused → HistoryView → Type 0
FinishesTo before (Some why) after = after ≡ refusing before
FinishesTo before None after = HasFinished before after

-- where it comes that is to mark the host of a name
abbrev pub MarksTo : HistoryView → Name → Option Refused → HistoryView → Type 0
MarksTo before name (Some why) after = after ≡ refusing before
MarksTo before name None after = after ≡ marked_as (host_named before.place.rehearsal.rules.fleet name) before

-- a group that there is not is refused
abbrev pub LooksUpTo : HistoryView → Option ℕ → HistoryView → Type 0
LooksUpTo before (Some group) after = after ≡ before
LooksUpTo before None after = after ≡ refusing before

-- where a command leads
abbrev pub LeadsTo : HistoryView → Command → HistoryView → Type 0
LeadsTo before nothing after = after ≡ before
LeadsTo before (advance names) after = AdvancesTo before names (refusal before.place.rehearsal names) after
LeadsTo before (next count) after = GoesOnTo before count (over before.place.rehearsal) after
LeadsTo before finish after = FinishesTo before (over before.place.rehearsal) after
LeadsTo before (fail name) after = MarksTo before name (mark_refusal before.place.rehearsal name) after
LeadsTo before undo after = after ≡ undone before
LeadsTo before plan after = after ≡ before
LeadsTo before show after = after ≡ before
LeadsTo before (hosts name) after = LooksUpTo before (group_named before.place.rehearsal.rules.fleet name) after
LeadsTo before help after = after ≡ before
LeadsTo before quit after = after ≡ before
LeadsTo before unknown after = after ≡ refusing before

-- a line is answered by the text, and leads from one to the other
pub record Answers (tell : Telling) (before : HistoryView) (line text : List ℕ) (after : HistoryView) : Type 0 where
  pub text_is : text ≡ text_to tell before (command_in line) after
  pub leads : LeadsTo before (command_in line) after
