use Rattle.journal_writer.proofs.RunLemmas.{runs_are_said_truly}
use Rattle.journal_writer.proofs.laws.runs_are_said_truly.Goals as goal

pub returns : goal.returns
returns c = runs_are_said_truly
