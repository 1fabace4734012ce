use Rattle.roll_run.proofs.Following.{gains_as}
use Rattle.rollout.specs.Kept.{KeepsJournal}
use Rattle.rollout.specs.Systems.{sources_of}
use Rattle.rollout.proofs.Starting.{performs_safely}
use Rattle.rollout.proofs.program.run.Goals as goal

pub returns-clause-safe : goal.returns-clause-safe
returns-clause-safe g c =
    gains_as c.args.history c.perform-ended.result.1
    (performs_safely (KeepsJournal g.S.Journal.Write.contents g.S.JournalStore.is_new g.S.JournalStore.is_cut) (g.R.Runner.may c.args.runner.now) (g.S.System.may_watch c.args.system.now) (g.S.System.words c.args.system.now) (sources_of (g.S.System.known c.args.system.now) (g.I.Input.is_reliable c.args.input.now)) _ _ _ _ _ c.perform-ended.result.0.outcome) c.perform-ended.ensures
