use Rattle.std.proofs.Common.{List, sym, ap, ◌∙◌, subst}
use Rattle.event_log.specs.Rolls.{is_of_program}
use Rattle.fork_pool.specs.declared.script.row.Row.{Row}
use Rattle.fork_pool.specs.ScriptRows.{AreRun, lines_of}
use Rattle.fork_pool.proofs.RowLemmas.{if_ok, told_run}
use Rattle.fork_pool.proofs.script.running.ScriptRunner.run.Goals as goal

pub returns-clause-program : goal.returns-clause-program
returns-clause-program g c =
    let rows = c.as_slice.result.now in
    let run = subst (λ (l : List Row). AreRun (lines_of l)) (sym c.as_slice.ensures.value) c.self.invariant in
    if_ok c.outcome_of.result (λ outcome told. ap is_of_program told ∙ told_run (lines_of rows) c.host.result.index c.step.result run) c.outcome_of.ensures
