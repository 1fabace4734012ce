use Rattle.plan_check.proofs.JudgeLemmas.{front_same}
use Rattle.plan_check.proofs.groups.wrong_groups.Goals as goal

pub over_room-requires-clause-none : goal.over_room-requires-clause-none
over_room-requires-clause-none c group within = front_same 0 0 c.groups-groups.result 1024 group within
