use Rattle.std.proofs.Common.{None, map, sym, ◌∙◌, arith}
use Rattle.std.proofs.lemmas.List.{get_or_past, length-map}
use Rattle.fleet_states.specs.Groups.{groups_of}
use Rattle.fleet_states.proofs.GroupLemmas.{length-groups_of}
use Rattle.batch_plan.specs.Needs.{need_of}
use Rattle.batch_plan.proofs.LeastLemmas.{need_of_group}
use Rattle.batch_plan.proofs.checker.need_of_any.Goals as goal

pub returns-then-group-groups : goal.returns-then-group-groups
returns-then-group-groups c =
    c.need_in.ensures ∙ sym (need_of_group (groups_of c.args.fleet.now) c.args.statuses.now c.args.group.index (omega (arith, length-groups_of c.args.fleet.now)))

pub returns-else-group-groups : goal.returns-else-group-groups
returns-else-group-groups c =
    sym (get_or_past (map (need_of c.args.statuses.now) (groups_of c.args.fleet.now)) c.args.group.index None
    (omega (arith, length-groups_of c.args.fleet.now, length-map (groups_of c.args.fleet.now) (need_of c.args.statuses.now))))
