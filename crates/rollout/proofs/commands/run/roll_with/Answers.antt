use Rattle.run_command.specs.RunTexts.{IsTrueFault}
use Rattle.run_command.specs.Keepings.{KeepsBroken, KeepsRuns}
use Rattle.rollout.proofs.Journals.{kept_to}
use Rattle.rollout.proofs.Rolling.{ended_so, told_err, told_ok, told_stops}
use Rattle.rollout.proofs.commands.run.roll_with.Goals as goal

pub returns-clause-ok : goal.returns-clause-ok
returns-clause-ok g c =
    let old = g.W.Write.contents c.args.out.now in
    let new = g.W.Write.contents c.run_text-ran.new.out in
    let ran = c.run_text-ran.result.0 in
    let so = ended_so ran c.is_whole.result c.ended.result c.ended.ensures.ok c.ended.ensures.err in
    told_ok _ (IsTrueFault c.args.manner.form (g.R.Runner.may c.args.runner.now) c.args.inventory.now c.args.playbook.now c.args.manner.forks old new) c.args.history c.run_text-ran.result.1 ran c.is_whole.result
    c.ended.result so c.run_text-ran.ensures.ok

pub returns-clause-err : goal.returns-clause-err
returns-clause-err g c =
    let ran = c.run_text-ran.result.0 in
    let so = ended_so ran c.is_whole.result c.ended.result c.ended.ensures.ok c.ended.ensures.err in
    told_err _ _ c.args.history c.run_text-ran.result.1 ran c.is_whole.result c.ended.result so c.run_text-ran.ensures.ok c.run_text-ran.ensures.err

pub returns-clause-stops : goal.returns-clause-stops
returns-clause-stops g c same =
    let ran = c.run_text-ran.result.0 in
    let so = ended_so ran c.is_whole.result c.ended.result c.ended.ensures.ok c.ended.ensures.err in
    told_stops (g.A.StopControl.asks c.args.coordinator.now.attend.now) g.K.Recorder.refuses ran c.is_whole.result c.ended.result so c.run_text-ran.ensures.asked same

pub returns-clause-kept : goal.returns-clause-kept
returns-clause-kept g c =
    let ran = c.run_text-ran.result.0 in
    let so = ended_so ran c.is_whole.result c.ended.result c.ended.ensures.ok c.ended.ensures.err in
    kept_to (KeepsRuns g.K.Recorder.keeps c.args.inventory.now c.args.playbook.now) (KeepsBroken g.K.Recorder.keeps c.args.inventory.now c.args.playbook.now) g.K.IsComplete.is_whole_now c.args.keeper c.run_text-ran.result.2
    ran c.is_whole.result c.ended.result c.args.history c.run_text-ran.result.1 so c.is_whole.ensures c.run_text-ran.ensures.kept c.run_text-ran.ensures.ahead
