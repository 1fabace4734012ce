use Rattle.journal_writer.proofs.EndLemmas.{ends_are_said_truly}
use Rattle.journal_writer.proofs.laws.ends_are_said_truly.Goals as goal

pub returns : goal.returns
returns c = ends_are_said_truly
