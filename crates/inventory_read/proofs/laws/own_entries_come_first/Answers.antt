use Rattle.inventory_read.proofs.MergeLaws.{own_first}
use Rattle.inventory_read.proofs.laws.own_entries_come_first.Goals as goal

pub returns : goal.returns
returns c = own_first
