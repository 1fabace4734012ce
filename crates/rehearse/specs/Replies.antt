-- What is answered to a line, however it is written.
use Rattle.std.specs.Prelude.{ℕ, Option, None, Some, List, []}
use Rattle.group_tree.specs.Names.{Name}
use Rattle.group_tree.specs.declared.ids.HostId.{HostId}
use Rattle.domains.specs.FleetViews.{FleetView}
use Rattle.batch_plan.specs.declared.answers.Answer.{Answer}
use Rattle.rehearse.specs.declared.stage.Stage.{Stage}

-- why a line is refused: nobody has the name; the play has ended; the host does not stand in the batch; the host does not wait; or its words are no command
pub data Refused : Type 0 where
  no_such_name : Name → Refused
  over : Refused
  not_in_batch : HostId → Refused
  not_waiting : HostId → Refused
  bad_command : Refused

-- what is answered: that the line is refused; the batches by which the rehearsal went on; the host that was marked; that a command was taken back, or that there was none; the plan; the
-- hosts and the end where the rehearsal stands; hosts of a group there; or the list of commands
pub data Reply : Type 0 where
  refused : Refused → Reply
  advanced : List (List ℕ) → Reply
  marked : HostId → Reply
  undone : Reply
  nothing_to_undo : Reply
  plan : Answer → Reply
  show : Stage → Reply
  hosts : Stage → List ℕ → Reply
  help : Reply

-- how an answer is written
abbrev pub Telling : Type 0
Telling = FleetView → Reply → List ℕ

-- the text of an answer, if there is one
abbrev pub told : Telling → FleetView → Option Reply → List ℕ
told tell fleet None = []
told tell fleet (Some reply) = tell fleet reply
