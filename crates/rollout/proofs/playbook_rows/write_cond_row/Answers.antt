-- Where a name is long, the rows are told equal by computing them.
use Rattle.rollout.proofs.playbook_rows.write_cond_row.Goals as goal

pub returns-in-Unexpected : goal.returns-in-Unexpected
returns-in-Unexpected g c = rw c.in-Unexpected.is c.condition_row-in-Unexpected.ensures
