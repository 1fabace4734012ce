use Rattle.occupancy_table.proofs.ColourLemmas.{colours_change_no_cell}
use Rattle.occupancy_table.proofs.laws.colours_change_no_cell.Goals as goal

pub returns : goal.returns
returns c = colours_change_no_cell
