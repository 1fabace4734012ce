use Rattle.std.specs.Prelude.{option_map}
use Rattle.group_tree.specs.declared.ids.GroupId.{GroupId}
use Rattle.journal.proofs.NameLemmas.{found_group, no_group}
use Rattle.journal.proofs.fields.find_group.Goals as goal

pub returns-in-Ok : goal.returns-in-Ok
returns-in-Ok c =
    found_group c.args.fleet.now c.args.name.now c.in-Ok.name.now (option_map (λ (group : GroupId). group.index) c.group.result) c.in-Ok.ensures.cases.0 c.in-Ok.ensures.cases.1
    c.group.ensures.index

pub returns-in-Err : goal.returns-in-Err
returns-in-Err c = no_group c.args.fleet.now c.args.name.now c.in-Err.ensures.cases.0
