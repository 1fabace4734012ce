use Rattle.occupancy_table.proofs.CellLemmas.{plans_are_within_limits}
use Rattle.occupancy_table.proofs.laws.plans_are_within_limits.Goals as goal

pub returns : goal.returns
returns c = plans_are_within_limits
