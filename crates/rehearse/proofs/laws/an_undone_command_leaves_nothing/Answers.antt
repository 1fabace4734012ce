use Rattle.rehearse.proofs.LeadLemmas.{undone_command_is_as_before}
use Rattle.rehearse.proofs.laws.an_undone_command_leaves_nothing.Goals as goal

pub returns : goal.returns
returns c = undone_command_is_as_before
