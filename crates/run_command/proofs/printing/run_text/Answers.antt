use Rattle.std.proofs.Common.{List}
use Rattle.play_model.specs.declared.play.Play.{Play}
use Rattle.run_command.proofs.FirstLemmas.{ahead_of_texts, fault_is_true, inputs_lent, kept_of_texts, recap_written}
use Rattle.run_command.proofs.TextLemmas.{err_as, ok_as}
use Rattle.run_command.specs.Beginnings.{IsTrueFaultFrom, WritesFrom}
use Rattle.run_command.specs.Keepings.{KeepsAheadFrom, KeepsBroken, KeepsFrom, KeepsRuns}
use Rattle.run_command.specs.RunTexts.{IsTrueFault, WritesRecap}
use Rattle.run_command.specs.declared.beginning.Beginning.{Beginning}
use Rattle.run_command.proofs.printing.run_text.Goals as goal

pub returns-clause-ok : goal.returns-clause-ok
returns-clause-ok g c =
    let may = g.R.Runner.may c.args.runner.now in
    let old = g.W.Write.contents c.args.out.now in
    let new = g.W.Write.contents c.run_from.new.out in
    let inputs = c.in-Ok.inputs in
    let plays : List Play = c.as_slice.result.now in
    let begins : Beginning = record { plays_before = 0; start = inputs.start } in
    let says = inputs_lent c.args.inventory.now c.args.playbook.now inputs.fleet inputs.start.vars.items inputs.plays.items plays inputs.start.statuses.items c.as_slice.ensures.value c.in-Ok.ensures.ok in
    ok_as (WritesFrom c.args.manner.form may inputs.fleet c.args.manner.forks plays begins old new)
    (WritesRecap c.args.manner.form may c.args.inventory.now c.args.playbook.now c.args.manner.forks old new) c.run_from.result.0 c.args.history c.run_from.result.1
    (recap_written c.args.manner.form may c.args.inventory.now c.args.playbook.now c.args.manner.forks inputs.fleet plays inputs.start says old new) c.run_from.ensures.ok

pub returns-clause-err : goal.returns-clause-err
returns-clause-err g c =
    let may = g.R.Runner.may c.args.runner.now in
    let old = g.W.Write.contents c.args.out.now in
    let new = g.W.Write.contents c.run_from.new.out in
    let inputs = c.in-Ok.inputs in
    let plays : List Play = c.as_slice.result.now in
    let begins : Beginning = record { plays_before = 0; start = inputs.start } in
    let says = inputs_lent c.args.inventory.now c.args.playbook.now inputs.fleet inputs.start.vars.items inputs.plays.items plays inputs.start.statuses.items c.as_slice.ensures.value c.in-Ok.ensures.ok in
    err_as (IsTrueFaultFrom c.args.manner.form may inputs.fleet c.args.manner.forks plays begins old new)
    (IsTrueFault c.args.manner.form may c.args.inventory.now c.args.playbook.now c.args.manner.forks old new) c.run_from.result.0 c.args.history c.run_from.result.1
    (fault_is_true c.args.manner.form may c.args.inventory.now c.args.playbook.now c.args.manner.forks inputs.fleet plays inputs.start says old new) c.run_from.ensures.err

pub returns-clause-kept : goal.returns-clause-kept
returns-clause-kept g c =
    let keeps = g.K.Recorder.keeps in
    let inputs = c.in-Ok.inputs in
    let plays : List Play = c.as_slice.result.now in
    let says = inputs_lent c.args.inventory.now c.args.playbook.now inputs.fleet inputs.start.vars.items inputs.plays.items plays inputs.start.statuses.items c.as_slice.ensures.value c.in-Ok.ensures.ok in
    ok_as (λ _. KeepsFrom keeps inputs.fleet plays c.args.keeper c.run_from.result.2) (λ _. KeepsRuns keeps c.args.inventory.now c.args.playbook.now c.args.keeper c.run_from.result.2)
    c.run_from.result.0 c.args.history c.run_from.result.1
    (λ end. kept_of_texts keeps c.args.inventory.now c.args.playbook.now inputs.fleet inputs.start.vars.items plays inputs.start.statuses.items says c.args.keeper c.run_from.result.2) c.run_from.ensures.kept

pub returns-clause-ahead : goal.returns-clause-ahead
returns-clause-ahead g c =
    let keeps = g.K.Recorder.keeps in
    let inputs = c.in-Ok.inputs in
    let plays : List Play = c.as_slice.result.now in
    let says = inputs_lent c.args.inventory.now c.args.playbook.now inputs.fleet inputs.start.vars.items inputs.plays.items plays inputs.start.statuses.items c.as_slice.ensures.value c.in-Ok.ensures.ok in
    err_as (λ _. KeepsAheadFrom keeps inputs.fleet plays c.args.keeper c.run_from.result.2) (λ _. KeepsBroken keeps c.args.inventory.now c.args.playbook.now c.args.keeper c.run_from.result.2)
    c.run_from.result.0 c.args.history c.run_from.result.1
    (λ fault. ahead_of_texts keeps c.args.inventory.now c.args.playbook.now inputs.fleet inputs.start.vars.items plays inputs.start.statuses.items says c.args.keeper c.run_from.result.2) c.run_from.ensures.ahead
