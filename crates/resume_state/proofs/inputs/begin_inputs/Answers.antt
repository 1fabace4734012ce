use Rattle.domains.specs.Ids.{host_numbers}
use Rattle.resume_state.proofs.InputLemmas.{all_err, all_ok, begins_with, not_begun}
use Rattle.resume_state.proofs.inputs.begin_inputs.Goals as goal

pub returns-clause-err : goal.returns-clause-err
returns-clause-err c =
    let inputs = c.in-Ok.inputs in
    let are = c.in-Ok.ensures.ok in
    all_err c.begin.result
    (not_begun c.args.inventory.now c.args.playbook.now c.args.mended.now inputs.fleet inputs.start.vars.items inputs.plays.items are.hosts are.says (host_numbers c.in-Ok-mended_hosts.mended.items)
    c.in-Ok-mended_hosts.ensures.ok)
    c.begin.ensures.err

pub returns-clause-ok : goal.returns-clause-ok
returns-clause-ok c =
    let inputs = c.in-Ok.inputs in
    let are = c.in-Ok.ensures.ok in
    all_ok c.begin.result
    (begins_with c.args.inventory.now c.args.playbook.now c.args.mended.now inputs.fleet inputs.start.vars.items inputs.plays.items are.hosts are.says (host_numbers c.in-Ok-mended_hosts.mended.items)
    c.in-Ok-mended_hosts.ensures.ok)
    c.begin.ensures.ok
