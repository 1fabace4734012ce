use Rattle.std.specs.Prelude.{option_map}
use Rattle.group_tree.specs.declared.ids.GroupId.{GroupId}
use Rattle.rehearse.proofs.NameLemmas.{found_group, no_group}
use Rattle.rehearse.proofs.names.find_group.Goals as goal

pub returns-in-Ok-clause-group : goal.returns-in-Ok-clause-group
returns-in-Ok-clause-group c =
    found_group c.args.fleet.now c.args.name.now c.in-Ok.name.now (option_map (λ (group : GroupId). group.index) c.group.result) c.in-Ok.ensures.cases.0 c.in-Ok.ensures.cases.1
    c.group.ensures.index

pub returns-in-Err-clause-group : goal.returns-in-Err-clause-group
returns-in-Err-clause-group c = no_group c.args.fleet.now c.args.name.now c.in-Err.ensures.cases.0
