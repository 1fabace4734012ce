use Rattle.bounded_io.proofs.WritingLemmas.{writes_two}
use Rattle.rollout.proofs.RowLemmas.{row_whole}
use Rattle.rollout.proofs.row.row.Goals as goal

pub returns : goal.returns
returns g c = writes_two _ _ _ _ _ _ _ c.write_name.ensures c.write_details.ensures (row_whole c.args.form c.args.name.now _)
