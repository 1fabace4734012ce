-- Where a name is long, the rows are told equal by computing them.
use Rattle.rollout.proofs.text_rows.write_pattern_row.Goals as goal

pub returns-in-NoSuchName : goal.returns-in-NoSuchName
returns-in-NoSuchName g c = rw c.in-NoSuchName.is c.name_row.ensures
