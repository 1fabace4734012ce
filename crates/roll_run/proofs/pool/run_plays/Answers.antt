use Rattle.std.proofs.Common.{List, refl, subst, sym}
use Rattle.roll_run.specs.Histories.{Gains}
use Rattle.roll_run.specs.Journals.{AreKeptAhead, ends_of}
use Rattle.roll_run.specs.declared.run.Run.{Run}
use Rattle.roll_run.proofs.Following.{gains_none, unbegun_runs}
use Rattle.roll_run.proofs.Keeping.{none_ahead}
use Rattle.roll_run.proofs.pool.run_plays.Goals as goal

pub returns-in-Err-clause-err : goal.returns-in-Err-clause-err
returns-in-Err-clause-err g c =
    gains_none c.args.history c.args.history refl
    (unbegun_runs (g.R.Runner.may c.args.setup.now.runner.now) c.args.setup.now.fleet.now c.args.setup.now.forks c.args.setup.now.plays.now c.args.start.statuses.items c.args.start.vars.items c.before_a_log-fault.result c.requires.play c.before_a_log-fault.ensures.done c.before_a_log-fault.ensures.last)

pub returns-in-Err-clause-ahead : goal.returns-in-Err-clause-ahead
returns-in-Err-clause-ahead g c =
    subst (λ (l : List Run). Gains c.args.history c.args.history (AreKeptAhead g.K.Recorder.keeps c.args.setup.now.fleet.now c.args.keeper c.args.keeper (ends_of l))) (sym c.before_a_log-fault.ensures.done)
    (none_ahead g.K.Recorder.keeps c.args.setup.now.fleet.now c.args.keeper c.args.keeper c.args.history refl)
