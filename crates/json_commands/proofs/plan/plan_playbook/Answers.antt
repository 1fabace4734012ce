use Rattle.std.proofs.Common.{◌<◌, List, length, arith}
use Rattle.domains.specs.Ids.{host_numbers}
use Rattle.play_model.specs.declared.play.Play.{Play}
use Rattle.plan_command.proofs.PlayLemmas.{has_play}
use Rattle.json_commands.proofs.PlanLemmas.{first_fault, first_plan}
use Rattle.json_commands.proofs.plan.plan_playbook.Goals as goal

pub index-requires : goal.index-requires
index-requires c =
    let plays : List Play = c.in-Ok.plays.items in
    let some : 0 < length plays = has_play 16 c.args.playbook.now plays c.in-Ok.ensures.ok.reads in
    omega (arith, some, c.in-Ok.plays.ok)

pub returns-in-Ok-plan_play-clause-ok : goal.returns-in-Ok-plan_play-clause-ok
returns-in-Ok-plan_play-clause-ok c =
    let read = c.in-Ok.ensures.ok in
    let planned = c.in-Ok-plan_play.planned in
    first_plan c.args.fleet.now c.args.playbook.now c.in-Ok.plays.items c.index.result.now planned.answer (host_numbers planned.held.items) read
    (has_play 16 c.args.playbook.now c.in-Ok.plays.items read.reads) c.index.ensures c.in-Ok-plan_play.ensures.ok

pub returns-clause-err : goal.returns-clause-err
returns-clause-err c =
    let read = c.in-Ok.ensures.ok in
    first_fault c.args.fleet.now c.args.playbook.now c.in-Ok.plays.items c.index.result.now c.in-Err-plan_play.fault read
    (has_play 16 c.args.playbook.now c.in-Ok.plays.items read.reads) c.index.ensures c.in-Err-plan_play.ensures.err
