use Rattle.journal_writer.proofs.ResumeLemmas.{resumed_runs_are_said_truly}
use Rattle.journal_writer.proofs.laws.resumed_runs_are_said_truly.Goals as goal

pub returns : goal.returns
returns c = resumed_runs_are_said_truly
