use Rattle.json_commands.proofs.JsonLemmas.{breaks_plan, writes_plan}
use Rattle.json_commands.proofs.plan.plan_json.Goals as goal

pub returns-in-Ok-write_plan_json-clause-ok : goal.returns-in-Ok-write_plan_json-clause-ok
returns-in-Ok-write_plan_json-clause-ok g c =
    let planned = c.in-Ok-plan_playbook.planned in
    writes_plan c.args.inventory.now c.args.playbook.now _ _ c.in-Ok.fleet planned.answer planned.held.items c.as_slice.result.now c.in-Ok.ensures.ok c.in-Ok-plan_playbook.ensures.ok c.as_slice.ensures.value
    c.as_slice-in-Ok-write_plan_json.result.now c.end_of.result c.as_slice-in-Ok-write_plan_json.ensures.value c.in-Ok-write_plan_json.ensures c.end_of.ensures

pub returns-clause-err : goal.returns-clause-err
returns-clause-err g c =
    let planned = c.in-Ok-plan_playbook.planned in
    breaks_plan c.args.inventory.now c.args.playbook.now _ _ c.in-Ok.fleet planned.answer planned.held.items c.as_slice.result.now c.in-Ok.ensures.ok c.in-Ok-plan_playbook.ensures.ok c.as_slice.ensures.value
    c.in-Err-write_plan_json.fault.written c.in-Err-write_plan_json.ensures
