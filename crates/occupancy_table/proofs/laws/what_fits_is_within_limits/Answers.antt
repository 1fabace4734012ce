use Rattle.occupancy_table.proofs.CellLemmas.{what_fits_is_within_limits}
use Rattle.occupancy_table.proofs.laws.what_fits_is_within_limits.Goals as goal

pub returns : goal.returns
returns c = what_fits_is_within_limits
