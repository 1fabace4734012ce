use Rattle.journal_writer.proofs.LossLemmas.{one_ahead_loses_nobody}
use Rattle.journal_writer.proofs.laws.one_ahead_loses_nobody.Goals as goal

pub returns : goal.returns
returns c = one_ahead_loses_nobody
