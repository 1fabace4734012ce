use Rattle.event_log.proofs.ToldColumns as columns
use Rattle.event_log.proofs.laws.logs_have_columns.Goals as goal

pub returns : goal.returns
returns c = columns.logs_have_columns
