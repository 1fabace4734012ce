use Rattle.run_command.specs.Beginnings.{IsTrueFaultFrom, WritesFrom}
use Rattle.run_command.specs.Beginnings.{plays_from}
use Rattle.run_command.specs.Keepings.{KeepsAheadFrom, KeepsFrom}
use Rattle.rollout.proofs.Journals.{kept_to}
use Rattle.rollout.proofs.Rolling.{ended_so, told_err, told_ok, told_stops}
use Rattle.rollout.proofs.commands.resume.run_rest.Goals as goal

pub returns-clause-ok : goal.returns-clause-ok
returns-clause-ok g c =
    let may = g.R.Runner.may c.args.runner.now in
    let old = g.W.Write.contents c.args.out.now in
    let new = g.W.Write.contents c.run_from-ran.new.out in
    let ran = c.run_from-ran.result.0 in
    let so = ended_so ran c.is_whole.result c.ended.result c.ended.ensures.ok c.ended.ensures.err in
    told_ok (WritesFrom c.args.manner.form may c.args.fleet.now c.args.manner.forks c.args.plays.now c.args.beginning old new) (IsTrueFaultFrom c.args.manner.form may c.args.fleet.now c.args.manner.forks c.args.plays.now c.args.beginning old new)
    c.args.history c.run_from-ran.result.1 ran c.is_whole.result c.ended.result so c.run_from-ran.ensures.ok

pub returns-clause-err : goal.returns-clause-err
returns-clause-err g c =
    let may = g.R.Runner.may c.args.runner.now in
    let old = g.W.Write.contents c.args.out.now in
    let new = g.W.Write.contents c.run_from-ran.new.out in
    let ran = c.run_from-ran.result.0 in
    let so = ended_so ran c.is_whole.result c.ended.result c.ended.ensures.ok c.ended.ensures.err in
    told_err (WritesFrom c.args.manner.form may c.args.fleet.now c.args.manner.forks c.args.plays.now c.args.beginning old new) (IsTrueFaultFrom c.args.manner.form may c.args.fleet.now c.args.manner.forks c.args.plays.now c.args.beginning old new)
    c.args.history c.run_from-ran.result.1 ran c.is_whole.result c.ended.result so c.run_from-ran.ensures.ok c.run_from-ran.ensures.err

pub returns-clause-stops : goal.returns-clause-stops
returns-clause-stops g c same =
    let ran = c.run_from-ran.result.0 in
    let so = ended_so ran c.is_whole.result c.ended.result c.ended.ensures.ok c.ended.ensures.err in
    told_stops (g.A.StopControl.asks c.args.coordinator.now.attend.now) g.K.Recorder.refuses ran c.is_whole.result c.ended.result so c.run_from-ran.ensures.asked same

pub returns-clause-kept : goal.returns-clause-kept
returns-clause-kept g c =
    let ran = c.run_from-ran.result.0 in
    let plays = plays_from c.args.beginning c.args.plays.now in
    let so = ended_so ran c.is_whole.result c.ended.result c.ended.ensures.ok c.ended.ensures.err in
    kept_to (KeepsFrom g.K.Recorder.keeps c.args.fleet.now plays) (KeepsAheadFrom g.K.Recorder.keeps c.args.fleet.now plays) g.K.IsComplete.is_whole_now c.args.keeper c.run_from-ran.result.2
    ran c.is_whole.result c.ended.result c.args.history c.run_from-ran.result.1 so c.is_whole.ensures c.run_from-ran.ensures.kept c.run_from-ran.ensures.ahead
